use Rattle.std.proofs.Common.{arith}
use Rattle.xn_model.proofs.laws.bounds_of_the_crossing_number.Goals as goal

pub returns-clause-falls : goal.returns-clause-falls
returns-clause-falls c = λ g k j least lower n drawing. let h = least n drawing in omega (arith, h, lower)

pub returns-clause-rises : goal.returns-clause-rises
returns-clause-rises c = λ g k j at_most upper. (at_most.0, at_most.1, (let h = at_most.2 in omega (arith, h, upper)))

pub returns-clause-meet : goal.returns-clause-meet
returns-clause-meet c = λ g low high least at_most. let h = least at_most.0 at_most.1 in let few = at_most.2 in omega (arith, h, few)

pub returns-clause-one : goal.returns-clause-one
returns-clause-one c = λ g j k first second. let at_most = second.at_most in let h = first.least at_most.0 at_most.1 in let few = at_most.2 in omega (arith, h, few)

pub returns-clause-limits : goal.returns-clause-limits
returns-clause-limits c = λ g m n below lower c drawing. let h = below c drawing in omega (arith, h, lower)

pub returns-clause-within : goal.returns-clause-within
returns-clause-within c = λ g n below c drawing. let h = below c drawing in omega (arith, h)

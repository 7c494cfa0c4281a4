-- The lists of all edges, by their places.
use Rattle.std.proofs.Common.{◌≡◌, ℕ, zero, suc, ◌+◌, ◌-◌, ◌≤◌, ◌≢◌, inl, inr, false, eqb, List, [], ◌∷◌, length, get_or, refl, sym, ◌∙◌, ap, arith}
use Rattle.std.specs.List.{range_with_len}
use Rattle.std.proofs.lemmas.Bool.{cases_Bool, eqb-false, eqb-true}
use Rattle.xn_model.specs.Drawing.{order_of}
use Rattle.xn_model.specs.Graph.{Graph}
use Rattle.xn_model.specs.Orders.{order_at}
use Rattle.xn_orders.specs.Entries.{list_of}

pub past : (e a : ℕ) → a ≤ e → eqb a e ≡ false → e - a ≡ suc (e - (a + 1))
past e a low other = let differ : a ≢ e = eqb-false a e other in omega arith

in_range : (a n : ℕ) (lists : List (List ℕ)) (e : ℕ) → length lists ≡ n → a ≤ e → order_at (range_with_len a n) lists e ≡ get_or lists (e - a) []
in_range a zero [] e fits low = refl
in_range a zero (l ∷ ls) e fits low = absurd (omega (arith, fits))
in_range a (suc n) [] e fits low = absurd (omega (arith, fits))
in_range a (suc n) (l ∷ ls) e fits low = elim (cases_Bool (eqb a e)) [
  | inl here ↦
      let none : e - a ≡ 0 = omega (arith, eqb-true a e here) in
      rw here (sym (ap (λ k. get_or (l ∷ ls) k []) none))
  | inr other ↦
      let more = past e a low other in
      let differ = eqb-false a e other in
      rw other (in_range (a + 1) n ls e (omega (arith, fits)) (omega (arith, low, differ)) ∙ sym (ap (λ k. get_or (l ∷ ls) k []) more))
]

-- the list of an edge is that at its place
pub order_of-at : (g : Graph) (lists : List (List ℕ)) → length lists ≡ length g.ends → (e : ℕ) → order_of g lists e ≡ list_of lists e
order_of-at g lists fits e =
    let all : e - 0 ≡ e = omega arith in
    in_range 0 (length g.ends) lists e fits (omega arith) ∙ ap (λ k. get_or lists k []) all

pub order_of-same : (g : Graph) (lists : List (List ℕ)) → length lists ≡ length g.ends → order_of g lists ≡ list_of lists
order_of-same g lists fits = λ i e. order_of-at g lists fits e i

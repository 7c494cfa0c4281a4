use Rattle.xn_surgery.proofs.Smooth.{components_smoothed, faces_smoothed, map_smoothed, smoothing_flat}
use Rattle.xn_surgery.proofs.laws.smoothing.Goals as goal

pub returns-clause-map : goal.returns-clause-map
returns-clause-map c = map_smoothed

pub returns-clause-counts : goal.returns-clause-counts
returns-clause-counts c = λ rest p q ends left next after map is.
    (faces_smoothed rest p q ends left next after map is, components_smoothed rest p q ends left next after map is)

pub returns-clause-flat : goal.returns-clause-flat
returns-clause-flat c = smoothing_flat

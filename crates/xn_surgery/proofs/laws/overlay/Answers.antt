use Rattle.xn_surgery.proofs.Overlay.{overlay_components, overlay_faces, overlay_flat, overlay_map}
use Rattle.xn_surgery.proofs.laws.overlay.Goals as goal

pub returns-clause-map : goal.returns-clause-map
returns-clause-map c = overlay_map

pub returns-clause-counts : goal.returns-clause-counts
returns-clause-counts c = λ nodes first second f g after one two is.
    (overlay_faces nodes first second f g after one two is, overlay_components nodes first second f g after one two is)

pub returns-clause-flat : goal.returns-clause-flat
returns-clause-flat c = overlay_flat

-- The first of the listed segments is placed.
use Rattle.std.proofs.Common.{◌≡◌, ℕ, ◌<◌, ◌≤◌, inl, inr, ◌||◌, Bool, true, false, List, [], length, replicate, refl, sym, ap, ◌∙◌, arith}
use Rattle.std.proofs.lemmas.Bool.{cases_lt}
use Rattle.std.proofs.lemmas.List.{get_or-replicate, get_or_past, length-replicate}
use Rattle.xn_model.specs.Graph.{Graph}
use Rattle.xn_model.specs.Lists.{at, has}
use Rattle.xn_map.specs.Marks.{is_marked}
use Rattle.xn_dmp.specs.Growing.{Grown, Grows, IsBegun}

-- no number is marked
pub marked_none : (n : ℕ) (marks : List Bool) → marks ≡ replicate n false → (t : ℕ) → is_marked marks t ≡ false
marked_none n marks none t = ap (λ xs. is_marked xs t) none ∙ elim (cases_lt t n) [
  | inl low ↦ get_or-replicate n t false false low
  | inr high ↦ get_or_past (replicate n false) t false (omega (arith, high, length-replicate n false))
]

or_false : (a : Bool) → (a || false) ≡ a
or_false true = refl
or_false false = refl

pub begun : (web : Graph) (list : List ℕ) (g new : Grown) → g.web ≡ web → g.placed ≡ [] → ((t : ℕ) → t < length web.ends → is_marked g.free t ≡ has list t) → Grows g new →
    is_marked new.free (at list 0) ≡ false → IsBegun web list new
begun web list g new web_is none marks grows first = record {
  web_is = grows.keeps.same_web ∙ web_is;
  together = λ t t_in.
      grows.keeps.together t (omega (arith, t_in, ap (λ (w : Graph). length w.ends) web_is))
      ∙ ap (λ xs. is_marked g.free t || has xs t) none ∙ or_false (is_marked g.free t) ∙ marks t t_in;
  first_taken = first;
}

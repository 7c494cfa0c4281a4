-- A flood that meets the ends of one listed segment after another.
use Rattle.std.proofs.Common.{◌≡◌, ℕ, ◌+◌, ◌<◌, ◌≤◌, inl, inr, Bool, true, List, length, refl, sym, ap, subst, ◌∙◌, arith}
use Rattle.std.proofs.lemmas.Bool.{cases_eq}
use Rattle.xn_model.specs.Graph.{ends_at}
use Rattle.xn_model.specs.Lists.{at}
use Rattle.xn_map.specs.Marks.{is_marked}
use Rattle.xn_components.specs.Flood.{AreBothMet, FloodsAll, HasBegun, IsFlood, MeetsNode}
use Rattle.xn_components.proofs.Flooding.{few_listed}

-- the ends of the first i listed segments are met
pub record FloodsSome (ends : List (ℕ × ℕ)) (marks met : List Bool) (list : List ℕ) (marks_now met_now : List Bool) (list_now : List ℕ) (i : ℕ) : Type 0 where
  pub floods : (old : List Bool) → IsFlood ends old marks met list → IsFlood ends old marks_now met_now list_now
  pub met_size : length met_now ≡ length met
  pub longer : length list ≤ length list_now
  pub first : at list_now 0 ≡ at list 0
  pub done : (j : ℕ) → j < i → j < length list_now → AreBothMet ends met_now (at list_now j)

module _ (ends : List (ℕ × ℕ)) (marks met : List Bool) (list : List ℕ) where
  pub floods_start : FloodsSome ends marks met list marks met list 0
  floods_start = record {
    floods = λ old flood. flood;
    met_size = refl;
    longer = omega arith;
    first = refl;
    done = λ j low. absurd (omega (arith, low));
  }

  module _ (m n : List Bool) (l : List ℕ) (i : ℕ) (some : FloodsSome ends marks met list m n l i) (begun : HasBegun ends marks met list) where
    pub begun_now : HasBegun ends m n l
    begun_now = (begun.0, some.floods begun.0 begun.1)

    -- both ends of the segment at place i are met in turn
    pub floods_more : (m1 n1 m2 n2 : List Bool) (l1 l2 : List ℕ) (u v : ℕ) → i < length l → u ≡ (ends_at ends (at l i)).0 → v ≡ (ends_at ends (at l i)).1 →
        MeetsNode ends u m n l m1 n1 l1 → MeetsNode ends v m1 n1 l1 m2 n2 l2 → FloodsSome ends marks met list m2 n2 l2 (i + 1)
    floods_more m1 n1 m2 n2 l1 l2 u v i_in u_is v_is one two =
        let flood = some.floods begun.0 begun.1 in
        let some_in : 0 < length l = flood.some in
        let same : (j : ℕ) → j < length l → at l2 j ≡ at l j = λ j low. two.kept j (omega (arith, low, one.longer)) ∙ one.kept j low in
        let keeps : (w : ℕ) → is_marked n w ≡ true → is_marked n2 w ≡ true = λ w h. two.met_kept w (one.met_kept w h) in
        record {
          floods = λ old f. two.floods old (one.floods old (some.floods old f));
          met_size = two.met_size ∙ one.met_size ∙ some.met_size;
          longer = omega (arith, some.longer, one.longer, two.longer);
          first = same 0 some_in ∙ some.first;
          done = λ j low j_in. elim (cases_eq j i) [
            | inl here ↦
                let P : ℕ → Type 0 = λ s. AreBothMet ends n2 s in
                let Q : ℕ → Type 0 = λ x. is_marked n2 x ≡ true in
                let both : AreBothMet ends n2 (at l i) = (subst Q u_is (two.met_kept u one.met_now), subst Q v_is two.met_now) in
                subst P (sym (ap (at l2) here ∙ same i i_in)) both
            | inr other ↦
                let j_low : j < i = omega (arith, low, other) in
                let j_old : j < length l = omega (arith, j_low, i_in) in
                let old = some.done j j_low j_old in
                subst (λ s. AreBothMet ends n2 s) (sym (same j j_old)) (keeps _ old.0, keeps _ old.1)
          ];
        }

    pub floods_all : length l ≤ i → FloodsAll ends marks met list m l
    floods_all all = record {
      met_new = n;
      floods = some.floods;
      done = λ j low. some.done j (omega (arith, low, all)) low;
      first = some.first;
    }

    -- there are no more than the segments
    pub floods_end : length ends ≤ i → FloodsAll ends marks met list m l
    floods_end all =
        let few = few_listed ends begun.0 m n l (some.floods begun.0 begun.1) in
        floods_all (omega (arith, few, all))

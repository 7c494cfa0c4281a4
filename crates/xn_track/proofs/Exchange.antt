-- Paths over a relinked node: what stays of them.
use Rattle.std.proofs.Common.{◌≡◌, ◌≢◌, ℕ, zero, suc, ◌+◌, ◌<◌, ◌≤◌, Bool, List, [], ◌∷◌, ◌++◌, length, take, drop, refl, sym, ◌∙◌, ap, subst, arith, length-append}
use Rattle.std.proofs.lemmas.List.{get_or-drop, get_or-take, get_or_append_left, length-drop}
use Rattle.xn_model.specs.Graph.{Graph}
use Rattle.xn_model.specs.Lists.{at}
use Rattle.xn_model.specs.Loose.{times_walked}
use Rattle.xn_model.specs.Map.{reverse_of, tail_of}
use Rattle.xn_track.specs.Relinking.{IsRelinked, PassesTo}
use Rattle.xn_track.specs.Steps.{node_after}
use Rattle.xn_track.specs.Track.{IsGround}
use Rattle.xn_track.proofs.Blocks.{at_after}
use Rattle.xn_track.proofs.Passes.{walked_apart}
use Rattle.xn_track.proofs.Paths.{Path, path_drop, path_map, path_seam, path_take}
use Rattle.xn_track.proofs.Seams.{TwoPasses, stays}

-- ---- parts of lists

pub take-size : (k : ℕ) (ds : List ℕ) → k ≤ length ds → length (take k ds) ≡ k
take-size zero ds k_in = refl
take-size (suc k) [] k_in = absurd (omega arith)
take-size (suc k) (d ∷ ds) k_in = ap suc (take-size k ds (omega arith))

drop-none : (k : ℕ) → drop {A = ℕ} k [] ≡ []
drop-none zero = refl
drop-none (suc k) = refl

pub drop-twice : (m k : ℕ) (ds : List ℕ) → drop k (drop m ds) ≡ drop (m + k) ds
drop-twice zero k ds = let e : k ≡ 0 + k = omega arith in ap (λ x. drop x ds) e
drop-twice (suc m) k [] = drop-none k ∙ sym (drop-none (suc m + k))
drop-twice (suc m) k (d ∷ ds) = let e : suc (m + k) ≡ suc m + k = omega arith in drop-twice m k ds ∙ ap (λ x. drop x (d ∷ ds)) e

-- ds stands in all from o on
pub record StandsIn (all : List ℕ) (o : ℕ) (ds : List ℕ) : Type 0 where
  pub fits : o + length ds ≤ length all
  pub same : (i : ℕ) → i < length ds → at all (o + i) ≡ at ds i

pub stands_first : (ds rest : List ℕ) → StandsIn (ds ++ rest) 0 ds
stands_first ds rest = record {
  fits = let size = length-append ds rest in omega (arith, size);
  same = λ i i_in. let e : 0 + i ≡ i = omega arith in ap (at (ds ++ rest)) e ∙ get_or_append_left ds rest 0 i i_in;
}

pub stands_all : (ds : List ℕ) → StandsIn ds 0 ds
stands_all ds = record { fits = omega arith; same = λ i i_in. let e : 0 + i ≡ i = omega arith in ap (at ds) e }

pub stands_later : (ds rest es : List ℕ) (o : ℕ) → StandsIn rest o es → StandsIn (ds ++ rest) (length ds + o) es
stands_later ds rest es o s = record {
  fits = let size = length-append ds rest in let low = s.fits in omega (arith, size, low);
  same = λ i i_in. let e : length ds + o + i ≡ length ds + (o + i) = omega arith in ap (at (ds ++ rest)) e ∙ at_after ds rest (o + i) 0 ∙ s.same i i_in;
}

pub stands_take : (all : List ℕ) (o : ℕ) (ds : List ℕ) (k : ℕ) → k ≤ length ds → StandsIn all o ds → StandsIn all o (take k ds)
stands_take all o ds k k_in s =
    let long = take-size k ds k_in in
    record {
      fits = let low = s.fits in omega (arith, long, low, k_in);
      same = λ i i_in. s.same i (omega (arith, i_in, long, k_in)) ∙ sym (get_or-take k ds i 0 (omega (arith, i_in, long)));
    }

pub stands_drop : (all : List ℕ) (o : ℕ) (ds : List ℕ) (k : ℕ) → k ≤ length ds → StandsIn all o ds → StandsIn all (o + k) (drop k ds)
stands_drop all o ds k k_in s =
    let long = length-drop k ds in
    record {
      fits = let low = s.fits in omega (arith, long, low, k_in);
      same = λ i i_in.
          let e : o + k + i ≡ o + (k + i) = omega arith in
          ap (at all) e ∙ s.same (k + i) (omega (arith, i_in, long, k_in)) ∙ sym (get_or-drop k ds i 0);
    }

-- what leads there, under other names
pub move : (P : ℕ → ℕ → Type 0) (x y x' y' : ℕ) → x ≡ x' → y ≡ y' → P x y → P x' y'
move P x y x' y' one two h =
    let A : ℕ → Type 0 = λ z. P z y in
    let B : ℕ → Type 0 = λ z. P x' z in
    subst B two (subst A one h)

module _ (nodes : ℕ) (web : Graph) (next : ℕ → ℕ) (four : ℕ → Bool) (ground : IsGround nodes web next four) where
  abbrev E : ℕ
  E = length web.ends

  abbrev L : ℕ → ℕ → Type 0
  L = PassesTo nodes web next four

  -- a part of the walks in which the two passes don't stand stays a path
  pub part_stays : (all : List ℕ) (p q : ℕ) (two : TwoPasses nodes web next four all p q) (more : Graph) (after : ℕ → ℕ) (fewer : ℕ → Bool) →
      IsRelinked nodes web next four (reverse_of (at all p)) (reverse_of (at all q)) more after fewer →
      (o : ℕ) (ds : List ℕ) → StandsIn all o ds → ((k : ℕ) → suc k < length ds → (o + k ≢ p) × (o + k ≢ q)) → (a z : ℕ) → Path E L a ds z →
      Path (length more.ends) (PassesTo nodes more after fewer) a ds z
  part_stays all p q two more after fewer is o ds s avoid a z path =
      path_map E (length more.ends) L (PassesTo nodes more after fewer) a z ds is.split.all path (λ k k_in l.
      let here = s.same k (omega (arith, k_in)) in
      let on : o + suc k ≡ suc (o + k) = omega arith in
      let there : at all (suc (o + k)) ≡ at ds (suc k) = ap (at all) (sym on) ∙ s.same (suc k) k_in in
      let old : L (reverse_of (at all (o + k))) (at all (suc (o + k))) = move L _ _ _ _ (ap reverse_of (sym here)) (sym there) l in
      let low = s.fits in
      let both = avoid k k_in in
      move (PassesTo nodes more after fewer) _ _ _ _ (ap reverse_of here) there
      (stays nodes web next four ground all p q two more after fewer is (o + k) (omega (arith, k_in, low)) both.0 both.1 old))

  -- a pass of a walk that stands there
  pub seam_in : (all : List ℕ) (o : ℕ) (ds : List ℕ) → StandsIn all o ds → (a z : ℕ) → Path E L a ds z → (k : ℕ) → suc k < length ds →
      L (reverse_of (at all (o + k))) (at all (suc (o + k)))
  seam_in all o ds s a z path k k_in =
      let on : o + suc k ≡ suc (o + k) = omega arith in
      move L _ _ _ _ (ap reverse_of (sym (s.same k (omega (arith, k_in))))) (sym (ap (at all) (sym on) ∙ s.same (suc k) k_in)) (path_seam E L a z ds path k k_in)

  -- two positions of walks that stand there
  pub two_passes : (all : List ℕ) → ((s : ℕ) → times_walked s all ≤ 1) → (o o' : ℕ) (ds ds' : List ℕ) → StandsIn all o ds → StandsIn all o' ds' →
      (a z a' z' : ℕ) → Path E L a ds z → Path E L a' ds' z' → (i j : ℕ) → suc i < length ds → suc j < length ds' → o + i ≢ o' + j →
      node_after web.ends ds i ≡ node_after web.ends ds' j → TwoPasses nodes web next four all (o + i) (o' + j)
  two_passes all once o o' ds ds' s s' a z a' z' path path' i j i_in j_in differ meet =
      let on : o + suc i ≡ suc (o + i) = omega arith in
      let on' : o' + suc j ≡ suc (o' + j) = omega arith in
      record {
        apart = walked_apart all once;
        p_in = let low = s.fits in omega (arith, low, i_in);
        q_in = let low = s'.fits in omega (arith, low, j_in);
        differ = differ;
        first = seam_in all o ds s a z path i i_in;
        second = seam_in all o' ds' s' a' z' path' j j_in;
        one_node = ap (λ k. tail_of web.ends (at all k)) (sym on) ∙ ap (tail_of web.ends) (s.same (suc i) i_in) ∙ meet
            ∙ sym (ap (tail_of web.ends) (s'.same (suc j) j_in)) ∙ ap (λ k. tail_of web.ends (at all k)) on';
      }

  -- the part of a walk up to a pass, and the part after it
  pub front_path : (from to : ℕ) (ds : List ℕ) → Path E L from ds to → (all : List ℕ) (o : ℕ) → StandsIn all o ds → (p q : ℕ) → TwoPasses nodes web next four all p q →
      (more : Graph) (after : ℕ → ℕ) (fewer : ℕ → Bool) → IsRelinked nodes web next four (reverse_of (at all p)) (reverse_of (at all q)) more after fewer →
      (i : ℕ) → suc i < length ds → ((k : ℕ) → k < i → (o + k ≢ p) × (o + k ≢ q)) →
      Path (length more.ends) (PassesTo nodes more after fewer) from (take (suc i) ds) (reverse_of (at ds i))
  front_path from to ds path all o s p q two more after fewer is i i_in avoid =
      let size = take-size (suc i) ds (omega (arith, i_in)) in
      part_stays all p q two more after fewer is o (take (suc i) ds) (stands_take all o ds (suc i) (omega (arith, i_in)) s)
      (λ k k_in. avoid k (omega (arith, k_in, size))) from (reverse_of (at ds i)) (path_take E L from to ds path i i_in)

  pub back_path : (from to : ℕ) (ds : List ℕ) → Path E L from ds to → (all : List ℕ) (o : ℕ) → StandsIn all o ds → (p q : ℕ) → TwoPasses nodes web next four all p q →
      (more : Graph) (after : ℕ → ℕ) (fewer : ℕ → Bool) → IsRelinked nodes web next four (reverse_of (at all p)) (reverse_of (at all q)) more after fewer →
      (i : ℕ) → suc i < length ds → ((k : ℕ) → i < k → suc k < length ds → (o + k ≢ p) × (o + k ≢ q)) →
      Path (length more.ends) (PassesTo nodes more after fewer) (at ds (suc i)) (drop (suc i) ds) to
  back_path from to ds path all o s p q two more after fewer is i i_in avoid =
      let size = length-drop (suc i) ds in
      part_stays all p q two more after fewer is (o + suc i) (drop (suc i) ds) (stands_drop all o ds (suc i) (omega (arith, i_in)) s)
      (λ k k_in.
      let both = avoid (suc i + k) (omega arith) (omega (arith, k_in, size)) in
      let e : o + (suc i + k) ≡ o + suc i + k = omega arith in
      (λ same. both.0 (e ∙ same), λ same. both.1 (e ∙ same)))
      (at ds (suc i)) to (path_drop E L from to ds path i i_in)

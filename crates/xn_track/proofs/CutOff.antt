-- A closed part of a walk goes.
use Rattle.std.proofs.Common.{◌≡◌, ℕ, suc, ◌+◌, ◌-◌, ◌<◌, ◌≤◌, Bool, List, ◌++◌, length, take, drop, sym, ◌∙◌, ap, arith}
use Rattle.xn_model.specs.Graph.{Graph}
use Rattle.xn_model.specs.Lists.{at}
use Rattle.xn_model.specs.Loose.{times_walked}
use Rattle.xn_model.specs.Map.{reverse_of}
use Rattle.xn_track.specs.Relinking.{IsRelinked, PassesTo, MayBeRelinked}
use Rattle.xn_track.specs.Steps.{node_after}
use Rattle.xn_track.specs.Track.{IsGround}
use Rattle.xn_track.proofs.Exchange.{StandsIn, back_path, drop-twice, front_path, move, part_stays, stands_all, stands_first, stands_later, two_passes}
use Rattle.xn_track.proofs.Paths.{Path, path_append, times-append, times-take-drop}
use Rattle.xn_track.proofs.Seams.{TwoPasses, first_to_second, may}

module _ (nodes : ℕ) (web : Graph) (next : ℕ → ℕ) (four : ℕ → Bool) (ground : IsGround nodes web next four) (from to : ℕ) (ds rest : List ℕ)
    (path : Path (length web.ends) (PassesTo nodes web next four) from ds to) (once : (s : ℕ) → times_walked s ds + times_walked s rest ≤ 1)
    (i j : ℕ) (low : i < j) (j_in : suc j < length ds) (meet : node_after web.ends ds i ≡ node_after web.ends ds j) where
  abbrev all : List ℕ
  all = ds ++ rest

  stand : StandsIn all 0 ds
  stand = stands_first ds rest

  i_in : suc i < length ds
  i_in = omega (arith, low, j_in)

  two : TwoPasses nodes web next four all (0 + i) (0 + j)
  two = two_passes nodes web next four ground all (λ s. let sum = times-append s ds rest in let few = once s in omega (arith, sum, few)) 0 0 ds ds stand stand
      from to from to path path i j i_in j_in (λ same. omega (arith, same, low)) meet

  here : (k : ℕ) → k < length ds → at all (0 + k) ≡ at ds k
  here k k_in = stand.same k k_in

  at_i : at all (0 + i) ≡ at ds i
  at_i = here i (omega (arith, i_in))

  at_j : at all (0 + j) ≡ at ds j
  at_j = here j (omega (arith, j_in))

  pub cut_may : MayBeRelinked web next four (reverse_of (at ds i)) (reverse_of (at ds j))
  cut_may = move (MayBeRelinked web next four) _ _ _ _ (ap reverse_of at_i) (ap reverse_of at_j) (may nodes web next four ground all (0 + i) (0 + j) two)

  module _ (more : Graph) (after : ℕ → ℕ) (fewer : ℕ → Bool) (relinked : IsRelinked nodes web next four (reverse_of (at ds i)) (reverse_of (at ds j)) more after fewer) where
    is : IsRelinked nodes web next four (reverse_of (at all (0 + i))) (reverse_of (at all (0 + j))) more after fewer
    is = move (λ a b. IsRelinked nodes web next four a b more after fewer) _ _ _ _ (ap reverse_of (sym at_i)) (ap reverse_of (sym at_j)) relinked

    pub cut_path : Path (length more.ends) (PassesTo nodes more after fewer) from (take (suc i) ds ++ drop (suc j) ds) to
    cut_path =
        let front = front_path nodes web next four ground from to ds path all 0 stand (0 + i) (0 + j) two more after fewer is i i_in
        (λ k k_in. (λ same. omega (arith, same, k_in), λ same. omega (arith, same, k_in, low))) in
        let back = back_path nodes web next four ground from to ds path all 0 stand (0 + i) (0 + j) two more after fewer is j j_in
        (λ k k_low k_in. (λ same. omega (arith, same, k_low, low), λ same. omega (arith, same, k_low))) in
        let on : suc (0 + j) ≡ 0 + suc j = omega arith in
        let seam = move (PassesTo nodes more after fewer) _ _ _ _ (ap reverse_of at_i) (ap (at all) on ∙ here (suc j) j_in)
        (first_to_second nodes web next four ground all (0 + i) (0 + j) two more after fewer is) in
        path_append (length more.ends) (PassesTo nodes more after fewer) from (reverse_of (at ds i)) (at ds (suc j)) to (take (suc i) ds) (drop (suc j) ds) front seam back

    -- another walk stays
    pub cut_rest : (a z : ℕ) → Path (length web.ends) (PassesTo nodes web next four) a rest z → Path (length more.ends) (PassesTo nodes more after fewer) a rest z
    cut_rest a z way =
        let s = stands_later ds rest rest 0 (stands_all rest) in
        part_stays nodes web next four ground all (0 + i) (0 + j) two more after fewer is (length ds + 0) rest s
        (λ k k_in. (λ same. omega (arith, same, i_in), λ same. omega (arith, same, j_in))) a z way

pub cut_times : (s i j : ℕ) (ds : List ℕ) → i < j → times_walked s (take (suc i) ds ++ drop (suc j) ds) ≤ times_walked s ds
cut_times s i j ds low =
    let sum = times-append s (take (suc i) ds) (drop (suc j) ds) in
    let one = times-take-drop s (suc i) ds in
    let two = times-take-drop s (j - i) (drop (suc i) ds) in
    let e : suc i + (j - i) ≡ suc j = omega (arith, low) in
    let same : drop (j - i) (drop (suc i) ds) ≡ drop (suc j) ds = drop-twice (suc i) (j - i) ds ∙ ap (λ k. drop k ds) e in
    let times : times_walked s (drop (j - i) (drop (suc i) ds)) ≡ times_walked s (drop (suc j) ds) = ap (times_walked s) same in
    omega (arith, sum, one, two, times)

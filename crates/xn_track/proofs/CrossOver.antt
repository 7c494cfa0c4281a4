-- Two walks cross over: what follows a node changes places.
use Rattle.std.proofs.Common.{◌≡◌, ℕ, suc, ◌+◌, ◌<◌, ◌≤◌, Bool, List, ◌++◌, length, take, drop, sym, ◌∙◌, ap, arith}
use Rattle.xn_model.specs.Graph.{Graph}
use Rattle.xn_model.specs.Lists.{at}
use Rattle.xn_model.specs.Loose.{times_walked}
use Rattle.xn_model.specs.Map.{reverse_of}
use Rattle.xn_track.specs.Relinking.{IsRelinked, PassesTo, MayBeRelinked}
use Rattle.xn_track.specs.Steps.{crossing_over, node_after}
use Rattle.xn_track.specs.Track.{IsGround}
use Rattle.xn_track.proofs.Exchange.{StandsIn, back_path, front_path, move, part_stays, stands_all, stands_first, stands_later, two_passes}
use Rattle.xn_track.proofs.Paths.{Path, path_append, times-append, times-take-drop}
use Rattle.xn_track.proofs.Seams.{TwoPasses, first_to_second, may, second_to_first}

module _ (nodes : ℕ) (web : Graph) (next : ℕ → ℕ) (four : ℕ → Bool) (ground : IsGround nodes web next four) (from to from' to' : ℕ) (ds es rest : List ℕ)
    (path : Path (length web.ends) (PassesTo nodes web next four) from ds to) (path' : Path (length web.ends) (PassesTo nodes web next four) from' es to')
    (once : (s : ℕ) → times_walked s ds + times_walked s es + times_walked s rest ≤ 1)
    (i j : ℕ) (i_in : suc i < length ds) (j_in : suc j < length es) (meet : node_after web.ends ds i ≡ node_after web.ends es j) where
  abbrev all : List ℕ
  all = ds ++ (es ++ rest)

  abbrev n : ℕ
  n = length ds

  stand : StandsIn all 0 ds
  stand = stands_first ds (es ++ rest)

  stand' : StandsIn all (length ds + 0) es
  stand' = stands_later ds (es ++ rest) es 0 (stands_first es rest)

  stand_rest : StandsIn all (length ds + (length es + 0)) rest
  stand_rest = stands_later ds (es ++ rest) rest (length es + 0) (stands_later es rest rest 0 (stands_all rest))

  two : TwoPasses nodes web next four all (0 + i) (n + 0 + j)
  two = two_passes nodes web next four ground all
      (λ s. let sum = times-append s ds (es ++ rest) in let more = times-append s es rest in let few = once s in omega (arith, sum, more, few))
      0 (n + 0) ds es stand stand' from to from' to' path path' i j i_in j_in (λ same. omega (arith, same, i_in)) meet

  at_i : at all (0 + i) ≡ at ds i
  at_i = stand.same i (omega (arith, i_in))

  at_j : at all (n + 0 + j) ≡ at es j
  at_j = stand'.same j (omega (arith, j_in))

  pub cross_may : MayBeRelinked web next four (reverse_of (at ds i)) (reverse_of (at es j))
  cross_may = move (MayBeRelinked web next four) _ _ _ _ (ap reverse_of at_i) (ap reverse_of at_j) (may nodes web next four ground all (0 + i) (n + 0 + j) two)

  module _ (more : Graph) (after : ℕ → ℕ) (fewer : ℕ → Bool) (relinked : IsRelinked nodes web next four (reverse_of (at ds i)) (reverse_of (at es j)) more after fewer) where
    abbrev E' : ℕ
    E' = length more.ends

    abbrev L' : ℕ → ℕ → Type 0
    L' = PassesTo nodes more after fewer

    is : IsRelinked nodes web next four (reverse_of (at all (0 + i))) (reverse_of (at all (n + 0 + j))) more after fewer
    is = move (λ a b. IsRelinked nodes web next four a b more after fewer) _ _ _ _ (ap reverse_of (sym at_i)) (ap reverse_of (sym at_j)) relinked

    front : Path E' L' from (take (suc i) ds) (reverse_of (at ds i))
    front = front_path nodes web next four ground from to ds path all 0 stand (0 + i) (n + 0 + j) two more after fewer is i i_in
        (λ k k_in. (λ same. omega (arith, same, k_in), λ same. omega (arith, same, k_in, i_in)))

    back : Path E' L' (at ds (suc i)) (drop (suc i) ds) to
    back = back_path nodes web next four ground from to ds path all 0 stand (0 + i) (n + 0 + j) two more after fewer is i i_in
        (λ k k_low k_in. (λ same. omega (arith, same, k_low), λ same. omega (arith, same, k_in)))

    front' : Path E' L' from' (take (suc j) es) (reverse_of (at es j))
    front' = front_path nodes web next four ground from' to' es path' all (n + 0) stand' (0 + i) (n + 0 + j) two more after fewer is j j_in
        (λ k k_in. (λ same. omega (arith, same, i_in), λ same. omega (arith, same, k_in)))

    back' : Path E' L' (at es (suc j)) (drop (suc j) es) to'
    back' = back_path nodes web next four ground from' to' es path' all (n + 0) stand' (0 + i) (n + 0 + j) two more after fewer is j j_in
        (λ k k_low k_in. (λ same. omega (arith, same, i_in), λ same. omega (arith, same, k_low)))

    pub cross_one : Path E' L' from (crossing_over ds i es j) to'
    cross_one =
        let on : suc (n + 0 + j) ≡ n + 0 + suc j = omega arith in
        let seam = move L' _ _ _ _ (ap reverse_of at_i) (ap (at all) on ∙ stand'.same (suc j) j_in)
        (first_to_second nodes web next four ground all (0 + i) (n + 0 + j) two more after fewer is) in
        path_append E' L' from (reverse_of (at ds i)) (at es (suc j)) to' (take (suc i) ds) (drop (suc j) es) front seam back'

    pub cross_two : Path E' L' from' (crossing_over es j ds i) to
    cross_two =
        let on : suc (0 + i) ≡ 0 + suc i = omega arith in
        let seam = move L' _ _ _ _ (ap reverse_of at_j) (ap (at all) on ∙ stand.same (suc i) i_in)
        (second_to_first nodes web next four ground all (0 + i) (n + 0 + j) two more after fewer is) in
        path_append E' L' from' (reverse_of (at es j)) (at ds (suc i)) to (take (suc j) es) (drop (suc i) ds) front' seam back

    pub cross_rest : (a z : ℕ) → Path (length web.ends) (PassesTo nodes web next four) a rest z → Path E' L' a rest z
    cross_rest a z way =
        part_stays nodes web next four ground all (0 + i) (n + 0 + j) two more after fewer is (n + (length es + 0)) rest stand_rest
        (λ k k_in. (λ same. omega (arith, same, i_in), λ same. omega (arith, same, j_in))) a z way

pub cross_times : (s i j : ℕ) (ds es : List ℕ) → times_walked s (crossing_over ds i es j) + times_walked s (crossing_over es j ds i) ≡ times_walked s ds + times_walked s es
cross_times s i j ds es =
    let one = times-append s (take (suc i) ds) (drop (suc j) es) in
    let two = times-append s (take (suc j) es) (drop (suc i) ds) in
    let ds_sum = times-take-drop s (suc i) ds in
    let es_sum = times-take-drop s (suc j) es in
    omega (arith, one, two, ds_sum, es_sum)

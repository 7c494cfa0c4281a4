-- Each dart that goes in makes a map of those that are in.
use Rattle.std.proofs.Common.{◌≡◌, ◌≢◌, ℕ, zero, suc, ◌*◌, ◌<◌, ◌≤◌, inl, inr, List, length, sym, ap, subst, ◌∙◌, arith}
use Rattle.std.specs.List.{range_with_len, swap}
use Rattle.std.proofs.lemmas.Bool.{cases_eq}
use Rattle.std.proofs.lemmas.List.Edits.{length-swap}
use Rattle.std.proofs.lemmas.List.FromFn.{get_or-range_with_len, length-range_with_len}
use Rattle.xn_model.specs.Lists.{at}
use Rattle.xn_model.specs.Map.{tail_of}
use Rattle.xn_model.specs.Permutation.{IsSplice, Permutes, Reaches}
use Rattle.xn_ring.proofs.Orbits.{reaches_back}
use Rattle.xn_ring.proofs.Splice.{IsSplice-swap, JoinsCycles-splice, Permutes-splice}
use Rattle.xn_genus.proofs.Counts.{stays_alone}
use Rattle.xn_extend.specs.Search.{Came, IsChoice, leader, taken_back}
use Rattle.xn_extend.proofs.Swapped.{leader-is, swap-same, swap-swap}

-- next turns round each node through the darts below k, and each other dart is alone
pub record IsLive (ends : List (ℕ × ℕ)) (k : ℕ) (next : List ℕ) : Type 0 where
  pub size : length next ≡ 2 * length ends
  pub permutes : Permutes (2 * length ends) (at next)
  pub alone : (d : ℕ) → k ≤ d → d < 2 * length ends → at next d ≡ d
  pub same_node : (d : ℕ) → d < 2 * length ends → tail_of ends (at next d) ≡ tail_of ends d
  pub one_ring : (d e : ℕ) → d < k → e < k → tail_of ends d ≡ tail_of ends e → Reaches (at next) d e

at_start : (n d : ℕ) → d < n → at (range_with_len 0 n) d ≡ d
at_start n d below = get_or-range_with_len 0 n d 0 below ∙ omega arith

pub live_start : (ends : List (ℕ × ℕ)) → IsLive ends 0 (range_with_len 0 (2 * length ends))
live_start ends =
    let n = 2 * length ends in
    record {
      size = length-range_with_len 0 n;
      permutes = record { below = λ d d_in. omega (arith, at_start n d d_in); apart = λ d e d_in e_in same. sym (at_start n d d_in) ∙ same ∙ at_start n e e_in };
      alone = λ d from d_in. at_start n d d_in;
      same_node = λ d d_in. ap (tail_of ends) (at_start n d d_in);
      one_ring = λ d e d_in e_in same. absurd (omega arith);
    }

module _ (ends : List (ℕ × ℕ)) (k : ℕ) (next : List ℕ) (live : IsLive ends k next) (k_in : k < 2 * length ends) (y : ℕ) (choice : IsChoice ends k y) where
  abbrev n : ℕ
  n = 2 * length ends

  pub choice_in : y < n
  choice_in = elim choice [ inl old ↦ omega (arith, old.0, k_in) | inr new ↦ omega (arith, new.0, k_in) ]

  k_low : k < length next
  k_low = omega (arith, k_in, live.size)

  y_low : y < length next
  y_low = omega (arith, choice_in, live.size)

  abbrev after : List ℕ
  after = swap next y k

  splice : IsSplice n y k (at next) (at after)
  splice = subst (λ m. IsSplice m y k (at next) (at after)) live.size (IsSplice-swap next y k y_low k_low)

  alone_k : at next k ≡ k
  alone_k = live.alone k (omega arith) k_in

  size_after : length after ≡ n
  size_after = length-swap next y k ∙ live.size

  permutes_after : Permutes n (at after)
  permutes_after = Permutes-splice n y k (at next) (at after) live.permutes splice choice_in k_in

  -- it is led to by its choice
  pub leads_after : at after y ≡ k
  leads_after = splice.first ∙ alone_k

  pub leader_after : leader after k ≡ y
  leader_after = leader-is after n y k size_after permutes_after choice_in leads_after

  pub taken_back_after : taken_back after k ≡ next
  taken_back_after = ap (λ c. swap after c k) leader_after ∙ swap-swap next y k y_low k_low

  same_tail : tail_of ends y ≡ tail_of ends k
  same_tail = elim choice [ inl old ↦ old.1 | inr new ↦ ap (tail_of ends) new.0 ]

  not_joined : y < k → ¬ (Reaches (at next) y k)
  not_joined older there =
      let back = reaches_back n (at next) live.permutes y k choice_in there in
      let is : k ≡ y = sym (stays_alone (at next) k alone_k back.0) ∙ back.1 in
      omega (arith, is, older)

  round_after : (d e : ℕ) → d < suc k → e < suc k → tail_of ends d ≡ tail_of ends e → Reaches (at after) d e
  round_after d e d_in e_in same = elim choice [
    | inr new ↦ elim (cases_eq d k) [
      | inl d_k ↦ elim (cases_eq e k) [
        | inl e_k ↦ (0, d_k ∙ sym e_k)
        | inr e_less ↦ absurd (new.1 e (omega (arith, e_in, e_less)) (sym same ∙ ap (tail_of ends) d_k))
      ]
      | inr d_less ↦ elim (cases_eq e k) [
        | inl e_k ↦ absurd (new.1 d (omega (arith, d_in, d_less)) (same ∙ ap (tail_of ends) e_k))
        | inr e_less ↦
            let unchanged : after ≡ next = ap (λ c. swap next c k) new.0 ∙ swap-same next k k_low in
            subst (λ xs. Reaches (at xs) d e) (sym unchanged) (live.one_ring d e (omega (arith, d_in, d_less)) (omega (arith, e_in, e_less)) same)
      ]
    ]
    | inl old ↦
        let joins = JoinsCycles-splice n y k (at next) (at after) live.permutes splice choice_in k_in (not_joined old.0) in
        let d_low : d < n = omega (arith, d_in, k_in) in
        let e_low : e < n = omega (arith, e_in, k_in) in
        let walks = (joins.walks d e d_low e_low).1 in
        elim (cases_eq d k) [
          | inl d_k ↦ elim (cases_eq e k) [
            | inl e_k ↦ (0, d_k ∙ sym e_k)
            | inr e_less ↦
                let y_e = live.one_ring y e old.0 (omega (arith, e_in, e_less)) (old.1 ∙ ap (tail_of ends) (sym d_k) ∙ same) in
                walks (inr (inr ((0, d_k), y_e)))
          ]
          | inr d_less ↦ elim (cases_eq e k) [
            | inl e_k ↦
                let d_y = live.one_ring d y (omega (arith, d_in, d_less)) old.0 (same ∙ ap (tail_of ends) e_k ∙ sym old.1) in
                walks (inr (inl (d_y, (0, sym e_k))))
            | inr e_less ↦ walks (inl (live.one_ring d e (omega (arith, d_in, d_less)) (omega (arith, e_in, e_less)) same))
          ]
        ]
  ]

  pub live_after : IsLive ends (suc k) after
  live_after = record {
    size = size_after;
    permutes = permutes_after;
    alone = λ d from d_in.
        let not_k : d ≢ k = λ same. omega (arith, same, from) in
        let not_y : d ≢ y = λ same. elim choice [ inl old ↦ omega (arith, same, from, old.0) | inr new ↦ not_k (same ∙ new.0) ] in
        splice.others d d_in not_y not_k ∙ live.alone d (omega (arith, from)) d_in;
    same_node = λ d d_in. elim (cases_eq d y) [
      | inl at_y ↦ ap (λ x. tail_of ends (at after x)) at_y ∙ ap (tail_of ends) leads_after ∙ sym same_tail ∙ ap (tail_of ends) (sym at_y)
      | inr not_y ↦ elim (cases_eq d k) [
        | inl at_k ↦ ap (λ x. tail_of ends (at after x)) at_k ∙ ap (tail_of ends) splice.second ∙ live.same_node y choice_in ∙ same_tail ∙ ap (tail_of ends) (sym at_k)
        | inr not_k ↦ ap (tail_of ends) (splice.others d d_in not_y not_k) ∙ live.same_node d d_in
      ]
    ];
    one_ring = round_after;
  }

-- the darts that came are live
pub came_live : (ends : List (ℕ × ℕ)) (k : ℕ) (next : List ℕ) → k ≤ 2 * length ends → Came ends k next → IsLive ends k next
came_live ends zero next within is = subst (IsLive ends 0) (sym is) (live_start ends)
came_live ends (suc k) next within came =
    let old = taken_back next k in
    let before = came_live ends k old (omega (arith, within)) came.1 in
    let k_in : k < 2 * length ends = omega (arith, within) in
    let c = leader next k in
    let size : length next ≡ 2 * length ends = sym (length-swap next c k) ∙ before.size in
    let c_in = choice_in ends k old before k_in c came.0.choice in
    let again : swap old c k ≡ next = swap-swap next c k (omega (arith, c_in, size)) (omega (arith, k_in, size)) in
    subst (IsLive ends (suc k)) again (live_after ends k old before k_in c came.0.choice)

-- Walks round a node that come back to their start: what isn't met is nowhere at the node.
use Rattle.std.proofs.Common.{◌≡◌, ℕ, suc, ◌+◌, ◌*◌, ◌<◌, ◌≤◌, inl, inr, length, sym, ap, subst, ◌∙◌, arith}
use Rattle.std.proofs.lemmas.Bool.{cases_eq}
use Rattle.xn_model.specs.Lists.{at}
use Rattle.xn_model.specs.Map.{tail_of}
use Rattle.xn_model.specs.Permutation.{Reaches, iterate}
use Rattle.xn_ring.proofs.Orbits.{within, within_round}
use Rattle.xn_map.specs.Anchored.{IsDartOf}
use Rattle.xn_map.specs.Listed.{IsListedMap, ListedMap}

module _ (m : ListedMap) (is : IsListedMap m) (P : ℕ → Type 0) (first e : ℕ) (first_in : first < 2 * length m.web.ends)
    (e_at : IsDartOf m.web.ends (tail_of m.web.ends first) e) where
  ring : Reaches (at m.next) first e
  ring = is.is_map.one_ring first e first_in e_at.0 (sym e_at.1)

  -- where the walk came back
  pub none_round : (k : ℕ) → iterate (at m.next) (suc k) first ≡ first → ((j : ℕ) → j ≤ k → ¬ (P (iterate (at m.next) j first))) → ¬ (P e)
  none_round k back unmet here =
      let early = within_round (2 * length m.web.ends) (at m.next) is.is_map.permutes first k back ring.0 in
      unmet early.0 early.1 (subst P (sym (early.2 ∙ ring.1)) here)

  -- where it is as long as there are darts
  pub none_all : ((j : ℕ) → j < 2 * length m.web.ends → ¬ (P (iterate (at m.next) j first))) → ¬ (P e)
  none_all unmet here =
      let early = within (2 * length m.web.ends) (at m.next) is.is_map.permutes first first_in ring.0 in
      unmet early.0 early.1 (subst P (sym (early.2 ∙ ring.1)) here)

-- ---- one step more

pub unmet_to : (f : ℕ → ℕ) (P : ℕ → Type 0) (first e k : ℕ) → e ≡ iterate f k first → ¬ (P e) → ((j : ℕ) → j < k → ¬ (P (iterate f j first))) → (j : ℕ) → j ≤ k → ¬ (P (iterate f j first))
unmet_to f P first e k walked here unmet j low = elim (cases_eq j k) [
  | inl last ↦ λ h. here (subst P (ap (λ i. iterate f i first) last ∙ sym walked) h)
  | inr other ↦ unmet j (omega (arith, low, other))
]

pub unmet_more : (f : ℕ → ℕ) (P : ℕ → Type 0) (first e k : ℕ) → e ≡ iterate f k first → ¬ (P e) → ((j : ℕ) → j < k → ¬ (P (iterate f j first))) → (j : ℕ) → j < k + 1 → ¬ (P (iterate f j first))
unmet_more f P first e k walked here unmet j low = unmet_to f P first e k walked here unmet j (omega (arith, low))

pub walked_more : (f : ℕ → ℕ) (first e new k : ℕ) → e ≡ iterate f k first → new ≡ f e → new ≡ iterate f (k + 1) first
walked_more f first e new k walked step =
    let more : suc k ≡ k + 1 = omega arith in
    step ∙ ap f walked ∙ ap (λ i. iterate f i first) more

pub came_back : (f : ℕ → ℕ) (first e new k : ℕ) → e ≡ iterate f k first → new ≡ f e → new ≡ first → iterate f (suc k) first ≡ first
came_back f first e new k walked step back = ap f (sym walked) ∙ sym step ∙ back

-- the next dart is at the same node
pub next_there : (m : ListedMap) → IsListedMap m → (v e new : ℕ) → IsDartOf m.web.ends v e → new ≡ at m.next e → IsDartOf m.web.ends v new
next_there m is v e new e_at step =
    (omega (arith, step, is.is_map.permutes.below e e_at.0), ap (tail_of m.web.ends) step ∙ is.is_map.same_node e e_at.0 ∙ e_at.1)

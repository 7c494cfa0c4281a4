use Rattle.std.proofs.Common.{ℕ, sym, ◌∙◌, ap}
use Rattle.xn_simple.proofs.Sharing.{independent_from}
use Rattle.xn_simple.proofs.finding.common_end.Goals as goal

pub returns-then-a-c : goal.returns-then-a-c
returns-then-a-c c = ap (λ (p : ℕ × ℕ). p.0) (sym c.end-a.ensures.value) ∙ c.if-a-c.true ∙ ap (λ (p : ℕ × ℕ). p.0) c.end-c.ensures.value

pub returns-then-a-d : goal.returns-then-a-d
returns-then-a-d c = ap (λ (p : ℕ × ℕ). p.0) (sym c.end-a.ensures.value) ∙ c.if-a-d.true ∙ ap (λ (p : ℕ × ℕ). p.1) c.end-c.ensures.value

pub returns-then-b-c : goal.returns-then-b-c
returns-then-b-c c = ap (λ (p : ℕ × ℕ). p.1) (sym c.end-a.ensures.value) ∙ c.if-b-c.true ∙ ap (λ (p : ℕ × ℕ). p.0) c.end-c.ensures.value

pub returns-then-b-d : goal.returns-then-b-d
returns-then-b-d c = ap (λ (p : ℕ × ℕ). p.1) (sym c.end-a.ensures.value) ∙ c.if-b-d.true ∙ ap (λ (p : ℕ × ℕ). p.1) c.end-c.ensures.value

pub returns-else-b-d : goal.returns-else-b-d
returns-else-b-d c = independent_from c.args.graph.now.ends c.args.e c.args.f (record {
  ac = λ same. c.if-a-c.false (ap (λ (p : ℕ × ℕ). p.0) c.end-a.ensures.value ∙ same ∙ ap (λ (p : ℕ × ℕ). p.0) (sym c.end-c.ensures.value));
  ad = λ same. c.if-a-d.false (ap (λ (p : ℕ × ℕ). p.0) c.end-a.ensures.value ∙ same ∙ ap (λ (p : ℕ × ℕ). p.1) (sym c.end-c.ensures.value));
  bc = λ same. c.if-b-c.false (ap (λ (p : ℕ × ℕ). p.1) c.end-a.ensures.value ∙ same ∙ ap (λ (p : ℕ × ℕ). p.0) (sym c.end-c.ensures.value));
  bd = λ same. c.if-b-d.false (ap (λ (p : ℕ × ℕ). p.1) c.end-a.ensures.value ∙ same ∙ ap (λ (p : ℕ × ℕ). p.1) (sym c.end-c.ensures.value));
})

-- An accepted text has a drawing and a proof.
use Rattle.std.proofs.Common.{◌≡◌, ℕ, inl, inr, List, [], ◌∷◌, Result, Ok, Err, refl, sym, subst, arith}
use Rattle.std.proofs.lemmas.List.Elements.{All-nil}
use Rattle.xn_model.specs.Drawing.{order_of}
use Rattle.xn_model.specs.Graph.{Graph}
use Rattle.xn_model.specs.Lists.{at}
use Rattle.xn_kinds.specs.Row.{RowHolds}
use Rattle.xn_kinds.specs.declared.flaws.Flaw.{Flaw}
use Rattle.xn_text.specs.Pieces.{words_of}
use Rattle.xn_proof.specs.Forms.{Line, Reached, is_end, next_at, start_state, text_lines}
use Rattle.xn_proof.proofs.Steps.{ok_is}
use Rattle.xn_proof.specs.declared.item.Item.{Item}
use Rattle.xn_proof.specs.declared.places.Place.{Place}
use Rattle.xn_proof.specs.declared.places.Place.TheVariants as place
use Rattle.xn_general.specs.Bounds.{SimpleDrawingsAreDrawings}
use Rattle.xn_sound.specs.Laws.{AcceptedProofsBound}
use Rattle.xn_check.specs.Laws.{AcceptedHasProof, AcceptedTextBounds, HasProofOf}
use Rattle.xn_check.specs.Meaning.{Agrees}
use Rattle.xn_check.specs.Said.{Said, nothing_said, said}
use Rattle.xn_check.specs.Judging.{AtEnd, Judges, OnLine}
use Rattle.xn_check.specs.Verdict.{check_rules}
use Rattle.xn_check.proofs.Stages.{Stage, step}
use Rattle.xn_check.proofs.Taken.{taken}

-- ---- the end

module _ (g : Graph) (loops number : ℕ) (s : Said) (v : ℕ × ℕ) where
  at_end : (p : Place) → AtEnd (check_rules g loops) (is_end p) number s (Ok v) → Stage g p s → HasProofOf g v.0 v.1
  at_end place.Header e known = absurd cc
  at_end place.Graph e known = absurd cc
  at_end (place.Loops nodes m) e known = absurd cc
  at_end (place.Edge nodes edge more) e known = absurd cc
  at_end (place.Bounds m) e known = absurd cc
  at_end (place.Effort m) e known = absurd cc
  at_end (place.Along m segments more) e known = absurd cc
  at_end (place.Turn m more) e known = absurd cc
  at_end (place.Drawn m) e known = absurd cc
  at_end (place.Rows m) e known = absurd cc
  at_end (place.Row b) e known = absurd cc
  at_end (place.Over b more) e known = absurd cc
  at_end (place.Evidence b) e known = absurd cc
  at_end (place.Path b more) e known = absurd cc
  at_end (place.Tree m rows) e known = absurd cc
  at_end (place.Node m rows) e known = absurd cc
  at_end place.Nothing e known =
      subst (λ (w : ℕ × ℕ). HasProofOf g w.0 w.1) (sym (ok_is v (s.front.lower, s.front.upper) e)) (record {
        lists = s.front.lists;
        next = s.front.next;
        drawing = known.1.drawing;
        crossings = known.1.crossings;
        rows = s.rows.whole;
        tree = known.0.tree;
        accepted = record { rows_hold = known.0.rows_hold; tree = known.0.proves };
      })

-- ---- lines

on_line : (g : Graph) (loops : ℕ) (s : Said) (number : ℕ) (r : Result (Item × Reached) Flaw) (Rest : Reached → Said → Type 0) (v : ℕ × ℕ) (Goal : Type 0) →
    OnLine (check_rules g loops) s number r Rest (Ok v) → ((next : Item × Reached) → r ≡ Ok next → Agrees g loops s next.0 → Rest next.1 (said s next.0) → Goal) → Goal
on_line g loops s number (Err flaw) Rest v Goal e go = absurd cc
on_line g loops s number (Ok next) Rest v Goal e go = elim e [
  | inl both ↦ go next refl both.0 both.1
  | inr fails ↦ absurd (let other = fails.2 in cc)
]

judged : (g : Graph) (loops : ℕ) (lines : List Line) (at : Reached) (s : Said) (v : ℕ × ℕ) → Judges (check_rules g loops) at s lines (Ok v) → Stage g at.1 s → HasProofOf g v.0 v.1
judged g loops [] at s v j known = at_end g loops at.0 s v at.1 j known
judged g loops (line ∷ lines) at s v j known =
    on_line g loops s at.0 (next_at at line) _ v (HasProofOf g v.0 v.1) j (λ next is agrees rest.
    judged g loops lines next.1 (said s next.0) v rest (step g loops s at.1 at.0 (words_of line.0) (next.0, next.1.1) (taken at line next is) known agrees))

pub accepted_has_proof : AcceptedHasProof
accepted_has_proof g loops text lower upper verdict =
    judged g loops (text_lines text) start_state nothing_said (lower, upper) verdict (record { rows_hold = All-nil (RowHolds g); start = refl })

pub accepted_text_bounds : AcceptedProofsBound → SimpleDrawingsAreDrawings → AcceptedTextBounds
accepted_text_bounds bounds drawn g loops text lower upper is_graph verdict =
    let p = accepted_has_proof g loops text lower upper verdict in (
      bounds g lower p.rows p.tree is_graph p.accepted,
      (_, drawn g _ is_graph (order_of g p.lists, at p.next, p.drawing.drawing, refl), omega (arith, p.crossings)),
    )

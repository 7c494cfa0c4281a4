-- The verdict on a text that has come to a state, or that holds a flaw.
use Rattle.std.proofs.Common.{◌≡◌, ◌≢◌, ℕ, ◌+◌, ◌-◌, ◌^◌, ◌<◌, Bool, true, false, cond, inl, inr, List, [], ◌∷◌, ◌++◌, length, Result, Ok, Err, refl, sym, subst, ap, ◌∙◌, append_assoc, append-nil, arith, length-append}
use Rattle.std.proofs.lemmas.Bool.{cases_Bool}
use Rattle.std.proofs.lemmas.List.Elements.{All-nil, All-cons, All-head, All-tail, All-append}
use Rattle.std.specs.Prelude.{All, min}
use Rattle.xn_kinds.specs.declared.flaws.Flaw.{Flaw}
use Rattle.xn_text.specs.Pieces.{Lacks, words_of}
use Rattle.xn_proof.specs.Forms.{Line, Reached, is_end, next_at, rule_at, start_state, text_lines, words_at}
use Rattle.xn_proof.specs.Reading.{◌>>=◌, syntax, trailing}
use Rattle.xn_proof.specs.declared.flaw.AnswerErr.{AnswerErr}
use Rattle.xn_proof.specs.declared.flaw.AnswerErr.TheVariants as errors
use Rattle.xn_proof.specs.declared.item.Item.{Item}
use Rattle.xn_proof.specs.declared.places.Place.{Place}
use Rattle.xn_check.specs.Judging.{AtEnd, Judges, JudgesTo, KeepsRules, OnLine, Rules, StopsAt, Took}
use Rattle.xn_stream.specs.Pieces.{AreLines, FailsNext, ComesOrFails, OnKept, HasCome, HoldsFlaw, LeadTo, whole_lines, with_end}
use Rattle.xn_stream.proofs.TextLines.{ended_first, last_only, some_first, whole_more}

-- ---- lines behind the end, and lines that aren't ended

-- what the rule of a line gives, by its two tests
abbrev pub by_tests : Bool → Bool → Flaw → Flaw → Result (Item × Place) Flaw → Result (Item × Place) Flaw
by_tests b c d f w = cond b (Err d) (cond c w (Err f))

abbrev pub next_by : ℕ → Result (Item × Place) Flaw → Result (Item × Reached) Flaw
next_by i r = r >>= λ x. Ok (x.0, (min (i + 1) (2 ^ 64 - 1), x.1))

behind : (b c : Bool) (d f : Flaw) (w : Result (Item × Place) Flaw) → b ≡ true → by_tests b c d f w ≡ Err d
behind true c d f w e = refl
behind false c d f w e = absurd cc

pub behind_end : (at : Reached) (line : Line) → is_end at.1 ≡ true → next_at at line ≡ Err (trailing at.0)
behind_end at line e = ap (next_by at.0) (behind (is_end at.1) line.1 (trailing at.0) (syntax at.0) _ e)

last_line : (b : Bool) (d f : Flaw) (w : Result (Item × Place) Flaw) → b ≡ false → by_tests b false d f w ≡ Err f
last_line true d f w e = absurd cc
last_line false d f w e = refl

pub not_ended : (at : Reached) (bytes : List ℕ) → is_end at.1 ≡ false → next_at at (bytes, false) ≡ Err (syntax at.0)
not_ended at bytes e = ap (next_by at.0) (last_line (is_end at.1) (trailing at.0) (syntax at.0) (words_at at.1 at.0 (words_of bytes)) e)

module _ {S A : Type 0} (rules : Rules S A) where
  -- ---- whole lines

  pub goes_with : (s : S) (r : Result (Item × Reached) Flaw) (P Q : Reached → S → Type 0) → OnKept rules s r P → ((a : Reached) (t : S) → P a t → Q a t) →
      OnKept rules s r Q
  goes_with s (Ok next) P Q h more = (h.0, more next.1 (rules.more s next.0) h.1)
  goes_with s (Err flaw) P Q h more = absurd h

  kept_goes : (s t : S) (later : Reached) (r : Result (Item × Reached) Flaw) → KeepsRules rules s r later t →
      OnKept rules s r (λ a u. (later ≡ a) × (t ≡ u))
  kept_goes s t later (Ok next) h = (h.0, (h.1, h.2))
  kept_goes s t later (Err flaw) h = absurd h

  -- one line more
  lead_more : (lines : List (List ℕ)) (line : List ℕ) (a at later : Reached) (u s t : S) → LeadTo rules a u lines at s →
      KeepsRules rules s (next_at at (line, true)) later t → LeadTo rules a u (lines ++ line ∷ []) later t
  lead_more [] line a at later u s t lead kept =
      let here : KeepsRules rules u (next_at a (line, true)) later t = subst (λ (b : Reached). KeepsRules rules u (next_at b (line, true)) later t) lead.0
      (subst (λ (v : S). KeepsRules rules v (next_at at (line, true)) later t) lead.1 kept) in
      kept_goes u t later (next_at a (line, true)) here
  lead_more (l ∷ lines) line a at later u s t lead kept =
      goes_with u (next_at a (l, true)) (λ b v. LeadTo rules b v lines at s) (λ b v. LeadTo rules b v (lines ++ line ∷ []) later t) lead
      (λ b v rest. lead_more lines line b at later v s t rest kept)

  lines_more : (whole line : List ℕ) (at later : Reached) (s t : S) → AreLines rules whole at s → Lacks 10 line →
      KeepsRules rules s (next_at at (line, true)) later t → AreLines rules (whole ++ (line ++ 10 ∷ [])) later t
  lines_more whole line at later s t are lacks kept = record {
    lines = are.lines ++ line ∷ [];
    bytes_are = ap (λ (w : List ℕ). w ++ (line ++ 10 ∷ [])) are.bytes_are ∙ sym (whole_more are.lines line);
    lack = All-append (Lacks 10) are.lines (line ∷ []) are.lack (All-cons (Lacks 10) line [] lacks (All-nil (Lacks 10)));
    lead = lead_more are.lines line start_state at later rules.start s t are.lead kept;
  }

  -- ---- what comes of the lines that follow comes of the text

  on_line : (s : S) (number : ℕ) (r : Result (Item × Reached) Flaw) (P Rest : Reached → S → Type 0) (o : Result A Flaw) → OnKept rules s r P →
      ((a : Reached) (t : S) → P a t → Rest a t) → OnLine rules s number r Rest o
  on_line s number (Ok next) P Rest o h more = inl (h.0, more next.1 (rules.more s next.0) h.1)
  on_line s number (Err flaw) P Rest o h more = absurd h

  judged_from : (lines : List (List ℕ)) (rest : List ℕ) (a at : Reached) (u s : S) (o : Result A Flaw) → All (Lacks 10) lines → LeadTo rules a u lines at s →
      Judges rules at s (text_lines rest) o → Judges rules a u (text_lines (whole_lines lines ++ rest)) o
  judged_from [] rest a at u s o lack lead judged =
      subst (λ (b : Reached). Judges rules b u (text_lines rest) o) lead.0 (subst (λ (v : S). Judges rules at v (text_lines rest) o) lead.1 judged)
  judged_from (l ∷ lines) rest a at u s o lack lead judged =
      let is : text_lines (whole_lines (l ∷ lines) ++ rest) ≡ (l, true) ∷ text_lines (whole_lines lines ++ rest) =
      ap text_lines (append_assoc l (10 ∷ whole_lines lines) rest) ∙ ended_first l (whole_lines lines ++ rest) (All-head (Lacks 10) l lines lack) in
      subst (λ (ls : List Line). Judges rules a u ls o) (sym is)
      (on_line u a.0 (next_at a (l, true)) (λ b v. LeadTo rules b v lines at s) (λ b v. Judges rules b v (text_lines (whole_lines lines ++ rest)) o) o lead
      (λ b v after. judged_from lines rest b at v s o (All-tail (Lacks 10) l lines lack) after judged))

  pub judged_so : (text whole rest : List ℕ) (at : Reached) (s : S) (o : Result A Flaw) → AreLines rules whole at s → text ≡ whole ++ rest →
      Judges rules at s (text_lines rest) o → JudgesTo rules text o
  judged_so text whole rest at s o are is judged =
      let same : text ≡ whole_lines are.lines ++ rest = is ∙ ap (λ (w : List ℕ). w ++ rest) are.bytes_are in
      subst (λ (t : List ℕ). JudgesTo rules t o) (sym same) (judged_from are.lines rest start_state at rules.start s o are.lack are.lead judged)

  -- ---- the end of a text that has come to a state

  left_open : (at : Reached) (s : S) (begun : List ℕ) (o : Result A Flaw) → Lacks 10 begun → is_end at.1 ≡ false → AtEnd rules false at.0 s o →
      Judges rules at s (text_lines begun) o
  left_open at s [] o lacks e end = subst (λ (b : Bool). AtEnd rules b at.0 s o) (sym e) end
  left_open at s (b ∷ begun) o lacks e end =
      subst (λ (ls : List Line). Judges rules at s ls o) (sym (last_only b begun lacks))
      (subst (λ (r : Result (Item × Reached) Flaw). OnLine rules s at.0 r (λ later said. Judges rules later said [] o) o)
      (sym (not_ended at (b ∷ begun) e)) end)

  pub comes_out : (text begun : List ℕ) (at : Reached) (s : S) (o : Result A Flaw) → HasCome rules text at s begun → AtEnd rules (is_end at.1) at.0 s o →
      JudgesTo rules text o
  comes_out text begun at s o come end = judged_so text come.whole begun at s o come.lines come.text_is (elim (cases_Bool (is_end at.1)) [
    | inl e ↦ subst (λ (b : List ℕ). Judges rules at s (text_lines b) o) (sym (come.none_behind e)) end
    | inr e ↦ left_open at s begun o come.lacks e (subst (λ (b : Bool). AtEnd rules b at.0 s o) e end)
  ])

  -- ---- a text that holds a flaw

  fails_line : (s : S) (number : ℕ) (r : Result (Item × Reached) Flaw) (Rest : Reached → S → Type 0) (flaw : Flaw) →
      StopsAt rules s number r (errors.Refused flaw) → OnLine rules s number r Rest (Err flaw)
  fails_line s number (Ok next) Rest flaw h = inr (flaw.kind, h.0, ap (λ (n : ℕ). Err (record { line = n; kind = flaw.kind })) h.1)
  fails_line s number (Err broken) Rest flaw h = ap (λ (f : Flaw). Err f) (sym h)

  behind_judged : (at : Reached) (s : S) (rest : List ℕ) (flaw : Flaw) → is_end at.1 ≡ true → 0 < length rest → flaw ≡ trailing at.0 →
      Judges rules at s (text_lines rest) (Err flaw)
  behind_judged at s [] flaw e some is = absurd (omega arith)
  behind_judged at s (b ∷ rest) flaw e some is =
      let first = some_first b rest in
      subst (λ (ls : List Line). Judges rules at s ls (Err flaw)) (sym first.2)
      (subst (λ (r : Result (Item × Reached) Flaw). OnLine rules s at.0 r (λ later said. Judges rules later said first.1 (Err flaw)) (Err flaw))
      (sym (behind_end at first.0 e)) (ap (λ (f : Flaw). Err f) is))

  fails_judged : (at : Reached) (s : S) (rest : List ℕ) (flaw : Flaw) → FailsNext rules at s rest flaw → Judges rules at s (text_lines rest) (Err flaw)
  fails_judged at s rest flaw fails = elim fails [
    | inl end ↦ behind_judged at s rest flaw end.0 end.1 end.2
    | inr line ↦
        subst (λ (ls : List Line). Judges rules at s ls (Err flaw)) (sym (ap text_lines line.2 ∙ ended_first line.0 line.1 line.3))
        (fails_line s at.0 (next_at at (line.0, true)) _ flaw line.4)
  ]

  pub flaw_comes : (text : List ℕ) (flaw : Flaw) → HoldsFlaw rules text flaw → JudgesTo rules text (Err flaw)
  flaw_comes text flaw h = judged_so text h.whole h.rest h.at h.said (Err flaw) h.lines h.text_is (fails_judged h.at h.said h.rest flaw h.fails)

  -- more bytes behind it
  fails_more : (at : Reached) (s : S) (rest more : List ℕ) (flaw : Flaw) → FailsNext rules at s rest flaw → FailsNext rules at s (rest ++ more) flaw
  fails_more at s rest more flaw fails = elim fails [
    | inl end ↦ inl (end.0, (let long = length-append rest more in omega (arith, long, end.1)), end.2)
    | inr line ↦ inr (line.0, line.1 ++ more, ap (λ (r : List ℕ). r ++ more) line.2 ∙ append_assoc line.0 (10 ∷ line.1) more, line.3, line.4)
  ]

  pub flaw_stays : (text more : List ℕ) (flaw : Flaw) → HoldsFlaw rules text flaw → HoldsFlaw rules (text ++ more) flaw
  flaw_stays text more flaw h = record {
    whole = h.whole;
    rest = h.rest ++ more;
    at = h.at;
    said = h.said;
    lines = h.lines;
    text_is = ap (λ (t : List ℕ). t ++ more) h.text_is ∙ append_assoc h.whole h.rest more;
    fails = fails_more h.at h.said h.rest more flaw h.fails;
  }

  -- ---- a part of a line comes

  -- behind the line `end`
  stops_behind : (text more : List ℕ) (at later : Reached) (s t : S) (begun after : List ℕ) (line : Line) (r : Result (Unit {0}) AnswerErr) → HasCome rules text at s begun →
      is_end at.1 ≡ true → 0 < length more → Took rules at s line later t r → ComesOrFails rules (text ++ more) later t after r
  stops_behind text more at later s t begun after line (Ok u) come e some kept =
      absurd (subst (λ (n : Result (Item × Reached) Flaw). KeepsRules rules s n later t) (behind_end at line e) kept)
  stops_behind text more at later s t begun after line (Err errors.Memory) come e some stops = tt
  stops_behind text more at later s t begun after line (Err (errors.Refused flaw)) come e some stops =
      let is : trailing at.0 ≡ flaw =
      subst (λ (n : Result (Item × Reached) Flaw). StopsAt rules s at.0 n (errors.Refused flaw)) (behind_end at line e) stops in
      record {
        whole = come.whole;
        rest = begun ++ more;
        at = at;
        said = s;
        lines = come.lines;
        text_is = ap (λ (w : List ℕ). w ++ more) come.text_is ∙ append_assoc come.whole begun more;
        fails = inl (e, (let long = length-append begun more in omega (arith, long, some)), sym is);
      }

  -- not the end of a line
  pub part_comes : (text bytes : List ℕ) (at : Reached) (s : S) (begun : List ℕ) → HasCome rules text at s begun → is_end at.1 ≡ false → Lacks 10 bytes →
      HasCome rules (text ++ bytes) at s (begun ++ bytes)
  part_comes text bytes at s begun come e lacks = record {
    whole = come.whole;
    lines = come.lines;
    text_is = ap (λ (w : List ℕ). w ++ bytes) come.text_is ∙ append_assoc come.whole begun bytes;
    lacks = All-append (λ b. b ≢ 10) begun bytes come.lacks lacks;
    none_behind = λ end. absurd (let both = sym end ∙ e in cc);
  }

  -- the end of a line that begins so
  line_comes : (text bytes line : List ℕ) (at later : Reached) (s t : S) (begun : List ℕ) (r : Result (Unit {0}) AnswerErr) → HasCome rules text at s begun →
      Lacks 10 bytes → line ≡ begun ++ bytes → Took rules at s (line, true) later t r → ComesOrFails rules (text ++ (bytes ++ 10 ∷ [])) later t [] r
  line_comes text bytes line at later s t begun (Ok u) come lacks is kept =
      let all : Lacks 10 line = subst (Lacks 10) (sym is) (All-append (λ b. b ≢ 10) begun bytes come.lacks lacks) in
      let same : text ++ (bytes ++ 10 ∷ []) ≡ come.whole ++ (line ++ 10 ∷ []) =
      ap (λ (w : List ℕ). w ++ (bytes ++ 10 ∷ [])) come.text_is ∙ append_assoc come.whole begun (bytes ++ 10 ∷ [])
      ∙ ap (λ (w : List ℕ). come.whole ++ w) (sym (append_assoc begun bytes (10 ∷ [])) ∙ ap (λ (w : List ℕ). w ++ 10 ∷ []) (sym is)) in
      record {
        whole = come.whole ++ (line ++ 10 ∷ []);
        lines = lines_more come.whole line at later s t come.lines all kept;
        text_is = same ∙ sym (append-nil (come.whole ++ (line ++ 10 ∷ [])));
        lacks = All-nil (λ b. b ≢ 10);
        none_behind = λ e. refl;
      }
  line_comes text bytes line at later s t begun (Err errors.Memory) come lacks is stops = tt
  line_comes text bytes line at later s t begun (Err (errors.Refused flaw)) come lacks is stops =
      let all : Lacks 10 line = subst (Lacks 10) (sym is) (All-append (λ b. b ≢ 10) begun bytes come.lacks lacks) in
      record {
        whole = come.whole;
        rest = line ++ 10 ∷ [];
        at = at;
        said = s;
        lines = come.lines;
        text_is =
            ap (λ (w : List ℕ). w ++ (bytes ++ 10 ∷ [])) come.text_is ∙ append_assoc come.whole begun (bytes ++ 10 ∷ [])
            ∙ ap (λ (w : List ℕ). come.whole ++ w) (sym (append_assoc begun bytes (10 ∷ [])) ∙ ap (λ (w : List ℕ). w ++ 10 ∷ []) (sym is));
        fails = inr (line, [], refl, all, stops);
      }

  -- ---- by the result of a call

  pub found_behind : (text bytes : List ℕ) (ended : Bool) (at later : Reached) (s t : S) (begun after : List ℕ) (r : Result (Unit {0}) AnswerErr) →
      HasCome rules text at s begun → is_end at.1 ≡ true → 0 < length (with_end bytes ended) → Took rules at s (bytes, ended) later t r →
      ComesOrFails rules (text ++ with_end bytes ended) later t after r
  found_behind text bytes ended at later s t begun after r come e some took =
      stops_behind text (with_end bytes ended) at later s t begun after (bytes, ended) r come e some took

  pub found_line : (text bytes line : List ℕ) (at later : Reached) (s t : S) (begun after : List ℕ) (r : Result (Unit {0}) AnswerErr) →
      HasCome rules text at s begun → Lacks 10 bytes → line ≡ begun ++ bytes → after ≡ [] → Took rules at s (line, true) later t r →
      ComesOrFails rules (text ++ with_end bytes true) later t after r
  found_line text bytes line at later s t begun after r come lacks is none took =
      subst (λ (x : List ℕ). ComesOrFails rules (text ++ with_end bytes true) later t x r) (sym none)
      (line_comes text bytes line at later s t begun r come lacks is took)

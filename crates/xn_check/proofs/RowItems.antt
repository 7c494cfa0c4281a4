-- What the items of rows have to mean.
use Rattle.std.proofs.Common.{◌≡◌, ◌≢◌, ℕ, ◌+◌, ◌<◌, Bool, true, false, cond, eqb, List, [], ◌∷◌, ◌++◌, length, map, refl, sym, subst, ap, ◌∙◌, arith, append_assoc}
use Rattle.std.proofs.lemmas.Bool.{eq-eqb, ne_eqb}
use Rattle.std.proofs.lemmas.List.{append-nil, length-append}
use Rattle.std.specs.List.{All, flat_map}
use Rattle.std.specs.Prelude.{IfSome, Option, Some, None}
use Rattle.xn_model.specs.Graph.{Graph}
use Rattle.xn_kinds.specs.Row.{RowHolds}
use Rattle.xn_kinds.specs.declared.rows.Evidence.{Evidence}
use Rattle.xn_kinds.specs.declared.rows.Evidence.TheVariants.{Five, ThreeThree, Extension}
use Rattle.xn_kinds.specs.declared.rows.Row.{Row}
use Rattle.xn_proof.specs.Forms.{evidence_items, row_items}
use Rattle.xn_proof.specs.Spelling.{overs_of}
use Rattle.xn_proof.specs.WellFormed.{IsEvidenceText, IsRowText}
use Rattle.xn_proof.specs.declared.item.Item.{Item}
use Rattle.xn_proof.specs.declared.item.Item.TheVariants as item
use Rattle.xn_proof.proofs.Steps.{all_cons, all_first, all_none, all_rest}
use Rattle.xn_check.specs.Judging.{Rules}
use Rattle.xn_proof.specs.RowsSaid.{RowsSaid, evidence_of, no_rows, paths_for, row_by_list, row_by_path, rows_said, with_row}
use Rattle.xn_check.proofs.Items.{AllAgree, agree_first, agree_join, agree_rest, agree_tail, all_said, said_join}

-- so many rows are whole, and of the next one the edges and lists are said
abbrev pub listed_row : List Row → List ℕ → List (List ℕ) → List ℕ → List (List ℕ) → RowsSaid
listed_row whole edges lists branch paths = record { whole = whole; listed = edges; orders = lists; branch = branch; paths = paths }

-- so many rows are whole, and none is begun
abbrev pub whole_rows : List Row → RowsSaid
whole_rows whole = listed_row whole [] [] [] []

module _ (g : Graph) where
  -- the rules of rows alone
  abbrev pub RowAgrees : RowsSaid → Item → Type 0
  RowAgrees r (item.Path path) = IfSome (row_by_path r path) (RowHolds g)
  RowAgrees r (item.Extension list) = RowHolds g (row_by_list r list)
  RowAgrees r line = Unit {0}

  abbrev pub row_rules : Rules RowsSaid RowsSaid
  row_rules = record { start = no_rows; more = rows_said; agrees = RowAgrees; fails = λ r x kind. ⊥; answer = λ r. r }

  -- the items mean what they must exactly where P, and then this is said
  pub record Means (r : RowsSaid) (xs : List Item) (P : Type 0) (t : RowsSaid) : Type 0 where
    pub shows : AllAgree row_rules r xs → P
    pub kept : P → AllAgree row_rules r xs
    pub said_is : all_said row_rules r xs ≡ t

  -- ---- the edges and lists of a row

  overs_mean : (edges : List ℕ) (lists : List (List ℕ)) (whole : List Row) (es : List ℕ) (ls : List (List ℕ)) → length lists ≡ length edges →
      Means (listed_row whole es ls [] []) (map (λ o. item.Over o.0 o.1) (overs_of edges lists)) (Unit {0}) (listed_row whole (es ++ edges) (ls ++ lists) [] [])
  overs_mean [] [] whole es ls fit = record {
    shows = λ all. tt;
    kept = λ p. tt;
    said_is = ap (λ (xs : List ℕ). listed_row whole xs ls [] []) (sym (append-nil es))
        ∙ ap (λ (ys : List (List ℕ)). listed_row whole (es ++ []) ys [] []) (sym (append-nil ls));
  }
  overs_mean [] (l ∷ lists) whole es ls fit = absurd (omega (arith, fit))
  overs_mean (e ∷ edges) [] whole es ls fit = absurd (omega (arith, fit))
  overs_mean (e ∷ edges) (l ∷ lists) whole es ls fit =
      let rest = overs_mean edges lists whole (es ++ e ∷ []) (ls ++ l ∷ []) (omega (arith, fit)) in
      record {
        shows = λ all. tt;
        kept = λ p. (tt, rest.kept tt);
        said_is = rest.said_is
            ∙ ap (λ (xs : List ℕ). listed_row whole xs ((ls ++ l ∷ []) ++ lists) [] []) (append_assoc es (e ∷ []) edges)
            ∙ ap (λ (ys : List (List ℕ)). listed_row whole (es ++ e ∷ edges) ys [] []) (append_assoc ls (l ∷ []) lists);
      }

  -- ---- paths

  -- the last path ends the row
  last_path : (r : RowsSaid) (p : List ℕ) (o : Option Row) (row : Row) → row_by_path r p ≡ o → o ≡ Some row →
      Means r (item.Path p ∷ []) (RowHolds g row) (whole_rows (r.whole ++ row ∷ []))
  last_path r p o row is some =
      let same = is ∙ some in
      record {
        shows = λ all. subst (λ (x : Option Row). IfSome x (RowHolds g)) same all.0;
        kept = λ holds. (subst (λ (x : Option Row). IfSome x (RowHolds g)) (sym same) holds, tt);
        said_is = ap (λ (x : Option Row). with_row x (record r { paths = r.paths ++ p ∷ [] })) same;
      }

  -- an earlier path
  first_path : (r : RowsSaid) (p : List ℕ) (xs : List Item) (P : Type 0) (t : RowsSaid) → row_by_path r p ≡ None →
      Means (record r { paths = r.paths ++ p ∷ [] }) xs P t → Means r (item.Path p ∷ xs) P t
  first_path r p xs P t none rest =
      let on : rows_said r (item.Path p) ≡ record r { paths = r.paths ++ p ∷ [] } =
      ap (λ (x : Option Row). with_row x (record r { paths = r.paths ++ p ∷ [] })) none in
      record {
        shows = λ all. rest.shows (subst (λ (q : RowsSaid). AllAgree row_rules q xs) on (agree_tail row_rules r (item.Path p) xs all));
        kept = λ holds.
            (subst (λ (x : Option Row). IfSome x (RowHolds g)) (sym none) tt, subst (λ (q : RowsSaid). AllAgree row_rules q xs) (sym on) (rest.kept holds));
        said_is = ap (λ (q : RowsSaid). all_said row_rules q xs) on ∙ rest.said_is;
      }

  paths_mean : (ps : List (List ℕ)) (p : List ℕ) (whole : List Row) (es : List ℕ) (ls : List (List ℕ)) (branch : List ℕ) (done : List (List ℕ)) →
      length done + (length ps + 1) ≡ paths_for branch →
      let row : Row = record { edges = es; orders = ls; evidence = evidence_of branch (done ++ p ∷ ps) } in
      Means (listed_row whole es ls branch done) (map (λ q. item.Path q) (p ∷ ps)) (RowHolds g row) (whole_rows (whole ++ row ∷ []))
  paths_mean [] p whole es ls branch done count =
      let r = listed_row whole es ls branch done in
      let row : Row = record { edges = es; orders = ls; evidence = evidence_of branch (done ++ p ∷ []) } in
      let last : eqb (length done + 1) (paths_for branch) ≡ true = eq-eqb (length done + 1) (paths_for branch) count in
      last_path r p (row_by_path r p) row refl (ap (λ (b : Bool). cond b (Some row) None) last)
  paths_mean (q ∷ ps) p whole es ls branch done count =
      let r = listed_row whole es ls branch done in
      let row : Row = record { edges = es; orders = ls; evidence = evidence_of branch (done ++ p ∷ []) } in
      let short : length done + 1 ≢ paths_for branch = λ same. omega (arith, same, count) in
      let none : row_by_path r p ≡ None = ap (λ (b : Bool). cond b (Some row) None) (ne_eqb (length done + 1) (paths_for branch) short) in
      let longer = length-append done (p ∷ []) in
      let rest = paths_mean ps q whole es ls branch (done ++ p ∷ []) (omega (arith, longer, count)) in
      let Goal = λ (all : List (List ℕ)).
      let row : Row = record { edges = es; orders = ls; evidence = evidence_of branch all } in
      Means (listed_row whole es ls branch (done ++ p ∷ [])) (map (λ q. item.Path q) (q ∷ ps)) (RowHolds g row) (whole_rows (whole ++ row ∷ [])) in
      first_path r p (map (λ q. item.Path q) (q ∷ ps)) _ _ none (subst Goal (append_assoc done (p ∷ []) (q ∷ ps)) rest)

  -- ---- evidence

  branch_mean : (whole : List Row) (es : List ℕ) (ls : List (List ℕ)) (branch : List ℕ) (paths : List (List ℕ)) (e : Evidence) →
      length paths ≡ paths_for branch → 0 < length paths → evidence_of branch paths ≡ e →
      let row : Row = record { edges = es; orders = ls; evidence = e } in
      Means (listed_row whole es ls [] []) (item.Branch branch ∷ map (λ q. item.Path q) paths) (RowHolds g row) (whole_rows (whole ++ row ∷ []))
  branch_mean whole es ls branch [] e count some is = absurd (omega (arith, some))
  branch_mean whole es ls branch (p ∷ ps) e count some is =
      let Goal = λ (e : Evidence).
      let row : Row = record { edges = es; orders = ls; evidence = e } in
      Means (listed_row whole es ls branch []) (map (λ q. item.Path q) (p ∷ ps)) (RowHolds g row) (whole_rows (whole ++ row ∷ [])) in
      let paths = subst Goal is (paths_mean ps p whole es ls branch [] (omega (arith, count))) in
      record { shows = λ all. paths.shows all.1; kept = λ holds. (tt, paths.kept holds); said_is = paths.said_is }

  evidence_mean : (whole : List Row) (es : List ℕ) (ls : List (List ℕ)) (e : Evidence) → IsEvidenceText e →
      let row : Row = record { edges = es; orders = ls; evidence = e } in
      Means (listed_row whole es ls [] []) (evidence_items e) (RowHolds g row) (whole_rows (whole ++ row ∷ []))
  evidence_mean whole es ls (Five branch paths) text =
      let five : eqb (length branch) 5 ≡ true = eq-eqb (length branch) 5 text.0.0 in
      let count : length paths ≡ paths_for branch = text.1 ∙ sym (ap (λ (b : Bool). cond b 10 9) five) in
      branch_mean whole es ls branch paths (Five branch paths) count (omega (arith, text.1))
      (ap (λ (b : Bool). cond b (Five branch paths) (ThreeThree branch paths)) five)
  evidence_mean whole es ls (ThreeThree branch paths) text =
      let long = text.0.0 in
      let differ : length branch ≢ 5 = λ same. omega (arith, same, long) in
      let six : eqb (length branch) 5 ≡ false = ne_eqb (length branch) 5 differ in
      let count : length paths ≡ paths_for branch = text.1 ∙ sym (ap (λ (b : Bool). cond b 10 9) six) in
      branch_mean whole es ls branch paths (ThreeThree branch paths) count (omega (arith, text.1))
      (ap (λ (b : Bool). cond b (Five branch paths) (ThreeThree branch paths)) six)
  evidence_mean whole es ls (Extension list) text =
      record { shows = λ all. all.0; kept = λ holds. (holds, tt); said_is = refl }

  -- ---- rows

  row_means : (m : ℕ) (whole : List Row) (row : Row) → IsRowText m row → Means (whole_rows whole) (row_items row) (RowHolds g row) (whole_rows (whole ++ row ∷ []))
  row_means m whole row text =
      let overs = map (λ o. item.Over o.0 o.1) (overs_of row.edges row.orders) in
      let first = overs_mean row.edges row.orders whole [] [] text.lists_fit in
      let last = evidence_mean whole row.edges row.orders row.evidence text.evidence in
      let r = whole_rows whole in
      let s = listed_row whole row.edges row.orders [] [] in
      let items = evidence_items row.evidence in
      record {
        shows = λ all.
            let rest = agree_rest row_rules r overs items (agree_tail row_rules r (item.Row (length row.edges)) (overs ++ items) all) in
            last.shows (subst (λ (q : RowsSaid). AllAgree row_rules q items) first.said_is rest);
        kept = λ holds.
            (tt, agree_join row_rules r overs items (first.kept tt) (subst (λ (q : RowsSaid). AllAgree row_rules q items) (sym first.said_is) (last.kept holds)));
        said_is = said_join row_rules r overs items ∙ ap (λ (q : RowsSaid). all_said row_rules q items) first.said_is ∙ last.said_is;
      }

  pub rows_mean : (m : ℕ) (rows whole : List Row) → All (IsRowText m) rows →
      Means (whole_rows whole) (flat_map row_items rows) (All (RowHolds g) rows) (whole_rows (whole ++ rows))
  rows_mean m [] whole texts =
      record { shows = λ all. all_none (RowHolds g); kept = λ p. tt; said_is = ap (λ (ws : List Row). whole_rows ws) (sym (append-nil whole)) }
  rows_mean m (row ∷ rows) whole texts =
      let first = row_means m whole row (all_first (IsRowText m) row rows texts) in
      let rest = rows_mean m rows (whole ++ row ∷ []) (all_rest (IsRowText m) row rows texts) in
      let r = whole_rows whole in
      let items = flat_map row_items rows in
      record {
        shows = λ all. all_cons (RowHolds g) row rows
            (first.shows (agree_first row_rules r (row_items row) items all))
            (rest.shows (subst (λ (q : RowsSaid). AllAgree row_rules q items) first.said_is (agree_rest row_rules r (row_items row) items all)));
        kept = λ holds. agree_join row_rules r (row_items row) items
            (first.kept (all_first (RowHolds g) row rows holds))
            (subst (λ (q : RowsSaid). AllAgree row_rules q items) (sym first.said_is) (rest.kept (all_rest (RowHolds g) row rows holds)));
        said_is = said_join row_rules r (row_items row) items
            ∙ ap (λ (q : RowsSaid). all_said row_rules q items) first.said_is
            ∙ rest.said_is
            ∙ ap (λ (ws : List Row). whole_rows ws) (append_assoc whole (row ∷ []) rows);
      }

-- The web of some edges: the other edges go, and then their crossings, one after another along each edge.
use Rattle.std.proofs.Common.{◌≡◌, ◌≢◌, ℕ, ◌⊎◌, inl, inr, Bool, true, false, not, ◌||◌, List, [], ◌∷◌, ◌++◌, map, refl, sym, ◌∙◌, ap, subst, append_assoc}
use Rattle.std.specs.List.{IsDistinct, flat_map, list_any}
use Rattle.std.specs.Prelude.{filter, nat_eq}
use Rattle.std.proofs.lemmas.Bool.{both_ways, cases_Bool, or_parts, ne_eqb, not-true}
use Rattle.xn_model.specs.Graph.{touches}
use Rattle.xn_model.specs.Lists.{has}
use Rattle.xn_model.specs.Map.{is_lone}
use Rattle.xn_model.specs.Web.{segments_through}
use Rattle.xn_model.proofs.Has.{all_not, has-first, has-later}
use Rattle.xn_fewer.specs.Flat.{HasFlat}
use Rattle.xn_fewer.proofs.PassedOver.{dropped_flat, joined_flat}
use Rattle.xn_fewer.proofs.Has.{has-map, has-picked}

-- ---- nodes that no segment of a list touches

lone-cons : (p : ℕ × ℕ) (ps : List (ℕ × ℕ)) (w : ℕ) → p.0 ≢ w → p.1 ≢ w → is_lone ps w ≡ true → is_lone (p ∷ ps) w ≡ true
lone-cons p ps w one two rest = rw (ne_eqb p.0 w one, ne_eqb p.1 w two) rest

lone-append : (ps qs : List (ℕ × ℕ)) (w : ℕ) → is_lone ps w ≡ true → is_lone qs w ≡ true → is_lone (ps ++ qs) w ≡ true
lone-append [] qs w one two = two
lone-append (p ∷ ps) qs w one two =
    let parts : (touches p w ≡ false) × (list_any (λ q. touches q w) ps ≡ false) = or_parts _ _ (not-true _ one) in
    let rest = lone-append ps qs w (ap not parts.1) two in
    ap (λ b. not (b || list_any (λ q. touches q w) (ps ++ qs))) parts.0 ∙ rest

lone_through : (w v : ℕ) (ws : List ℕ) (u : ℕ) → u ≢ w → v ≢ w → ((y : ℕ) → has ws y ≡ true → y ≢ w) → is_lone (segments_through u ws v) w ≡ true
lone_through w v [] u u_not v_not each = lone-cons (u, v) [] w u_not v_not refl
lone_through w v (y ∷ ws) u u_not v_not each =
    let y_not = each y (has-first y ws) in
    lone-cons (u, y) (segments_through y ws v) w u_not y_not (lone_through w v ws y y_not v_not (λ z z_in. each z (has-later y ws z z_in)))

lone-flat_map : (f : ℕ → List (ℕ × ℕ)) (es : List ℕ) (w : ℕ) → ((e : ℕ) → has es e ≡ true → is_lone (f e) w ≡ true) → is_lone (flat_map f es) w ≡ true
lone-flat_map f [] w each = refl
lone-flat_map f (e ∷ es) w each =
    lone-append (f e) (flat_map f es) w (each e (has-first e es)) (lone-flat_map f es w (λ x x_in. each x (has-later e es x x_in)))

-- ---- some edges go

pub edges_dropped : (nodes : ℕ) (f : ℕ → List (ℕ × ℕ)) (keep : ℕ → Bool) (es : List ℕ) (pre : List (ℕ × ℕ)) → HasFlat nodes (pre ++ flat_map f es) →
    HasFlat nodes (pre ++ flat_map f (filter keep es))
edges_dropped nodes f keep [] pre flat = flat
edges_dropped nodes f keep (e ∷ es) pre flat = elim (cases_Bool (keep e)) [
  | inl keeps ↦
      let moved = subst (HasFlat nodes) (sym (append_assoc pre (f e) (flat_map f es))) flat in
      let rest = edges_dropped nodes f keep es (pre ++ f e) moved in
      rw keeps (subst (HasFlat nodes) (append_assoc pre (f e) (flat_map f (filter keep es))) rest)
  | inr drops ↦ rw drops (edges_dropped nodes f keep es pre (dropped_flat nodes pre (f e) (flat_map f es) flat))
]

-- ---- the crossings of one edge that go

-- the first node of a way is passed over
skip_first : (nodes u w v : ℕ) (pre post : List (ℕ × ℕ)) (ws : List ℕ) → is_lone pre w ≡ true → is_lone post w ≡ true → u ≢ w → v ≢ w → u ≢ v →
    ((y : ℕ) → has ws y ≡ true → (y ≢ w) × (u ≢ y)) →
    HasFlat nodes (pre ++ (segments_through u (w ∷ ws) v ++ post)) → HasFlat nodes (pre ++ (segments_through u ws v ++ post))
skip_first nodes u w v pre post [] lone_pre lone_post u_not v_not two each flat = joined_flat nodes u w v pre post lone_pre lone_post u_not v_not two flat
skip_first nodes u w v pre post (y ∷ ys) lone_pre lone_post u_not v_not two each flat =
    let here = each y (has-first y ys) in
    let along = lone_through w v ys y here.0 v_not (λ z z_in. (each z (has-later y ys z z_in)).0) in
    joined_flat nodes u w y pre (segments_through y ys v ++ post) lone_pre (lone-append (segments_through y ys v) post w along lone_post) u_not here.0 here.1 flat

module _ (nodes v : ℕ) (big : ℕ → ℕ) (keep : ℕ → Bool) (post : List (ℕ × ℕ)) where
  -- a way from u to v that meets no node twice; the nodes that go are touched by no other segment
  pub record IsClear (pre : List (ℕ × ℕ)) (u : ℕ) (xs : List ℕ) : Type 0 where
    pub two_ends : u ≢ v
    pub not_first : (x : ℕ) → has xs x ≡ true → u ≢ big x
    pub not_last : (x : ℕ) → has xs x ≡ true → v ≢ big x
    pub distinct : IsDistinct nat_eq xs
    pub apart : (x y : ℕ) → has xs x ≡ true → has xs y ≡ true → big x ≡ big y → x ≡ y
    pub lone_pre : (x : ℕ) → has xs x ≡ true → keep x ≡ false → is_lone pre (big x) ≡ true
    pub lone_post : (x : ℕ) → has xs x ≡ true → keep x ≡ false → is_lone post (big x) ≡ true

  later_apart : (pre : List (ℕ × ℕ)) (u x : ℕ) (xs : List ℕ) → IsClear pre u (x ∷ xs) → (y : ℕ) → has xs y ≡ true → big x ≢ big y
  unfolding IsDistinct
  later_apart pre u x xs clear y y_in same = all_not x xs clear.distinct.0 y y_in (clear.apart x y (has-first x xs) (has-later x xs y y_in) same)

  clear_on : (pre : List (ℕ × ℕ)) (u x : ℕ) (xs : List ℕ) → IsClear pre u (x ∷ xs) → IsClear (pre ++ (u, big x) ∷ []) (big x) xs
  unfolding IsDistinct
  clear_on pre u x xs clear = record {
    two_ends = λ same. clear.not_last x (has-first x xs) (sym same);
    not_first = later_apart pre u x xs clear;
    not_last = λ y y_in. clear.not_last y (has-later x xs y y_in);
    distinct = clear.distinct.1;
    apart = λ y z y_in z_in. clear.apart y z (has-later x xs y y_in) (has-later x xs z z_in);
    lone_pre = λ y y_in drops.
        lone-append pre ((u, big x) ∷ []) (big y) (clear.lone_pre y (has-later x xs y y_in) drops)
        (lone-cons (u, big x) [] (big y) (clear.not_first y (has-later x xs y y_in)) (later_apart pre u x xs clear y y_in) refl);
    lone_post = λ y y_in. clear.lone_post y (has-later x xs y y_in);
  }

  clear_past : (pre : List (ℕ × ℕ)) (u x : ℕ) (xs : List ℕ) → IsClear pre u (x ∷ xs) → IsClear pre u xs
  unfolding IsDistinct
  clear_past pre u x xs clear = record {
    two_ends = clear.two_ends;
    not_first = λ y y_in. clear.not_first y (has-later x xs y y_in);
    not_last = λ y y_in. clear.not_last y (has-later x xs y y_in);
    distinct = clear.distinct.1;
    apart = λ y z y_in z_in. clear.apart y z (has-later x xs y y_in) (has-later x xs z z_in);
    lone_pre = λ y y_in. clear.lone_pre y (has-later x xs y y_in);
    lone_post = λ y y_in. clear.lone_post y (has-later x xs y y_in);
  }

  pub edge_smoothed : (xs : List ℕ) (pre : List (ℕ × ℕ)) (u : ℕ) → IsClear pre u xs → HasFlat nodes (pre ++ (segments_through u (map big xs) v ++ post)) →
      HasFlat nodes (pre ++ (segments_through u (map big (filter keep xs)) v ++ post))
  edge_smoothed [] pre u clear flat = flat
  edge_smoothed (x ∷ xs) pre u clear flat =
      let w = big x in
      elim (cases_Bool (keep x)) [
        | inl keeps ↦
            let moved = subst (HasFlat nodes) (sym (append_assoc pre ((u, w) ∷ []) (segments_through w (map big xs) v ++ post))) flat in
            let rest = edge_smoothed xs (pre ++ (u, w) ∷ []) w (clear_on pre u x xs clear) moved in
            rw keeps (subst (HasFlat nodes) (append_assoc pre ((u, w) ∷ []) (segments_through w (map big (filter keep xs)) v ++ post)) rest)
        | inr drops ↦
            let x_in = has-first x xs in
            let joined = skip_first nodes u w v pre post (map big xs) (clear.lone_pre x x_in drops) (clear.lone_post x x_in drops)
            (clear.not_first x x_in) (clear.not_last x x_in) clear.two_ends
            (λ y y_in.
            let z = has-map big xs y y_in in
            (λ same. later_apart pre u x xs clear z.0 z.1 (sym same ∙ sym z.2), λ same. clear.not_first z.0 (has-later x xs z.0 z.1) (same ∙ sym z.2)))
            flat in
            rw drops (edge_smoothed xs pre u (clear_past pre u x xs clear) joined)
      ]

-- ---- the crossings of all edges that go

module _ (nodes : ℕ) (first last : ℕ → ℕ) (big : ℕ → ℕ → ℕ) (ord : ℕ → List ℕ) (small : List ℕ) where
  -- the ways of the edges meet no node twice, and two of them meet only where the edges cross
  pub record AreWays : Type 0 where
    pub two_ends : (e : ℕ) → has small e ≡ true → first e ≢ last e
    pub not_first : (e f x : ℕ) → has small e ≡ true → has small f ≡ true → has (ord f) x ≡ true → first e ≢ big f x
    pub not_last : (e f x : ℕ) → has small e ≡ true → has small f ≡ true → has (ord f) x ≡ true → last e ≢ big f x
    pub distinct : (e : ℕ) → IsDistinct nat_eq (ord e)
    pub apart : (e x f y : ℕ) → has small e ≡ true → has small f ≡ true → has (ord e) x ≡ true → has (ord f) y ≡ true → big e x ≡ big f y →
        ((e ≡ f) × (x ≡ y)) ⊎ ((e ≡ y) × (x ≡ f))

  abbrev pub way : (ℕ → List ℕ) → ℕ → List (ℕ × ℕ)
  way o e = segments_through (first e) (map (big e) (o e)) (last e)

  abbrev pub fewer : ℕ → List ℕ
  fewer e = filter (has small) (ord e)

  -- a crossing that goes isn't on another edge
  lone_elsewhere : AreWays → (o : ℕ → List ℕ) → ((f y : ℕ) → has (o f) y ≡ true → has (ord f) y ≡ true) → (e f x : ℕ) → has small e ≡ true → has small f ≡ true →
      e ≢ f → has (ord e) x ≡ true → has small x ≡ false → is_lone (way o f) (big e x) ≡ true
  lone_elsewhere ways o part e f x e_in f_in differ x_in goes =
      lone_through (big e x) (last f) (map (big f) (o f)) (first f) (ways.not_first f e x f_in e_in x_in) (ways.not_last f e x f_in e_in x_in)
      (λ y y_in same.
      let z = has-map (big f) (o f) y y_in in
      elim (ways.apart f z.0 e x f_in e_in (part f z.0 z.1) x_in (z.2 ∙ same)) [
        | inl one ↦ differ (sym one.0)
        | inr two ↦ both_ways (has small x) goes (ap (has small) (sym two.0) ∙ f_in)
      ])

  edges_smoothed : AreWays → (es : List ℕ) (pre : List (ℕ × ℕ)) → IsDistinct nat_eq es → ((e : ℕ) → has es e ≡ true → has small e ≡ true) →
      ((e x : ℕ) → has es e ≡ true → has (ord e) x ≡ true → has small x ≡ false → is_lone pre (big e x) ≡ true) →
      HasFlat nodes (pre ++ flat_map (way ord) es) → HasFlat nodes (pre ++ flat_map (way fewer) es)
  unfolding IsDistinct
  edges_smoothed ways [] pre distinct within lone flat = flat
  edges_smoothed ways (e ∷ es) pre distinct within lone flat =
      let e_in = within e (has-first e es) in
      let inside = λ (f : ℕ) (f_in : has es f ≡ true). within f (has-later e es f f_in) in
      let post = flat_map (way ord) es in
      let clear : IsClear nodes (last e) (big e) (has small) post pre (first e) (ord e) = record {
        two_ends = ways.two_ends e e_in;
        not_first = λ x x_in. ways.not_first e e x e_in e_in x_in;
        not_last = λ x x_in. ways.not_last e e x e_in e_in x_in;
        distinct = ways.distinct e;
        apart = λ x y x_in y_in same. elim (ways.apart e x e y e_in e_in x_in y_in same) [ inl one ↦ one.1 | inr two ↦ two.1 ∙ two.0 ];
        lone_pre = λ x x_in goes. lone e x (has-first e es) x_in goes;
        lone_post = λ x x_in goes. lone-flat_map (way ord) es (big e x) (λ f f_in.
            lone_elsewhere ways ord (λ g y y_in. y_in) e f x e_in (inside f f_in) (all_not e es distinct.0 f f_in) x_in goes);
      } in
      let here = edge_smoothed nodes (last e) (big e) (has small) post (ord e) pre (first e) clear flat in
      let moved = subst (HasFlat nodes) (sym (append_assoc pre (way fewer e) post)) here in
      let rest = edges_smoothed ways es (pre ++ way fewer e) distinct.1 inside
      (λ f x f_in x_in goes. lone-append pre (way fewer e) (big f x) (lone f x (has-later e es f f_in) x_in goes)
      (lone_elsewhere ways fewer (λ g y y_in. (has-picked (has small) (ord g) y y_in).0) f e x (inside f f_in) e_in (λ same. all_not e es distinct.0 f f_in (sym same)) x_in goes))
      moved in
      subst (HasFlat nodes) (append_assoc pre (way fewer e) (flat_map (way fewer) es)) rest

  pub all_smoothed : AreWays → IsDistinct nat_eq small → HasFlat nodes (flat_map (way ord) small) → HasFlat nodes (flat_map (way fewer) small)
  all_smoothed ways distinct flat = edges_smoothed ways small [] distinct (λ e e_in. e_in) (λ e x e_in x_in goes. refl) flat

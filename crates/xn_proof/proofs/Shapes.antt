-- What forms say of numbers, and how items and lists of items are spelled.
use Rattle.std.proofs.Common.{◌≡◌, ℕ, zero, suc, ◌+◌, List, [], ◌∷◌, ◌++◌, length, map, Option, Some, Result, Ok, refl, sym, ap, ◌∙◌, subst, append_assoc, decimal}
use Rattle.std.specs.List.{All}
use Rattle.xn_kinds.specs.declared.flaws.Flaw.{Flaw}
use Rattle.xn_proof.specs.Reading.{◌>>=◌, Left, form_at, keyed, keyed_form, many_at, numbers_at}
use Rattle.xn_proof.specs.Spelling.{each, line}
use Rattle.xn_proof.proofs.Keyed.{AreSmall, IsKey, keyed_again, keyed_takes, numbers_again, numbers_takes}
use Rattle.xn_proof.proofs.Steps.{bind_ok, ok_is, all_cons, all_first, all_none, all_rest}

-- a form says x of just the numbers of x, where x keeps P
pub record IsForm {X : Type 0} (form : ℕ → List (Option ℕ) → Result X Flaw) (numbers : X → List ℕ) (P : X → Type 0) : Type 0 where
  pub takes : (i : ℕ) (vs : List (Option ℕ)) (x : X) → form i vs ≡ Ok x → (vs ≡ map Some (numbers x)) × P x
  pub again : (i : ℕ) (x : X) → P x → form i (map Some (numbers x)) ≡ Ok x
  pub small : (x : X) → P x → AreSmall (numbers x)

-- reading gives x just where the text begins with the spelling of x, where x keeps P
pub record IsItem {X : Type 0} (item : Left → Result (X × Left) Flaw) (spell : X → List ℕ) (P : X → Type 0) : Type 0 where
  pub takes : (s : Left) (x : X) (after : Left) → item s ≡ Ok (x, after) → (s.1 ≡ spell x ++ after.1) × P x
  pub again : (i : ℕ) (x : X) (rest : List ℕ) → P x → (j : ℕ) × (item (i, spell x ++ rest) ≡ Ok (x, (j, rest)))

pub form_item : {X : Type 0} (key : List ℕ) (form : ℕ → List (Option ℕ) → Result X Flaw) (numbers : X → List ℕ) (P : X → Type 0) → IsKey key → IsForm form numbers P →
    IsItem (form_at key form) (λ x. line key (numbers x)) P
unfolding form_at
form_item key form numbers P is_key is_form = record {
  takes = λ s x after e.
      let l = bind_ok (numbers_at key s) (λ l. form l.0.0 l.0.1 >>= λ x. Ok (x, l.1)) (x, after) e in
      let f = bind_ok (form l.0.0.0 l.0.0.1) (λ x. Ok (x, l.0.1)) (x, after) l.2 in
      let same = ok_is (f.0, l.0.1) (x, after) f.2 in
      let value : f.0 ≡ x = ap (λ r. r.0) same in
      let left : l.0.1 ≡ after = ap (λ r. r.1) same in
      let said = is_form.takes l.0.0.0 l.0.0.1 x (f.1 ∙ ap (λ v. Ok v) value) in
      let read : numbers_at key s ≡ Ok ((l.0.0.0, map Some (numbers x)), after) = l.1 ∙ ap (λ vs. Ok ((l.0.0.0, vs), l.0.1)) said.0 ∙ ap (λ t. Ok ((l.0.0.0, map Some (numbers x)), t)) left in
      ((numbers_takes key s l.0.0.0 (numbers x) after read).0, said.1);
  again = λ i x rest p.
      (i + 1, rw (numbers_again key i (numbers x) rest is_key (is_form.small x p), is_form.again i x p) refl);
}

-- by a form, from the words of a line
pub keyed_form_takes : {X : Type 0} (key : List ℕ) (form : ℕ → List (Option ℕ) → Result X Flaw) (numbers : X → List ℕ) (P : X → Type 0) → IsForm form numbers P →
    (i : ℕ) (words : List (List ℕ)) (x : X) → keyed_form key form i words ≡ Ok x → (words ≡ key ∷ map decimal (numbers x)) × P x
keyed_form_takes key form numbers P is_form i words x e =
    let k = bind_ok (keyed key i words) (form i) x e in
    let said = is_form.takes i k.0 x k.2 in
    ((keyed_takes key i words (numbers x) (k.1 ∙ ap (λ vs. Ok vs) said.0)).0, said.1)

pub keyed_form_again : {X : Type 0} (key : List ℕ) (form : ℕ → List (Option ℕ) → Result X Flaw) (numbers : X → List ℕ) (P : X → Type 0) → IsForm form numbers P →
    (i : ℕ) (x : X) → P x → keyed_form key form i (key ∷ map decimal (numbers x)) ≡ Ok x
keyed_form_again key form numbers P is_form i x p = rw (keyed_again key i (numbers x) (is_form.small x p)) (is_form.again i x p)

-- ---- lists of items

joined : (a x b y c : List ℕ) → a ≡ x ++ b → b ≡ y ++ c → a ≡ (x ++ y) ++ c
joined a x b y c p q = p ∙ ap (λ (l : List ℕ). x ++ l) q ∙ sym (append_assoc x y c)

-- what is read, its number, and what each item keeps
pub record Many {X : Type 0} (spell : X → List ℕ) (P : X → Type 0) (k : ℕ) (text : List ℕ) (read : List X × Left) : Type 0 where
  pub text_is : text ≡ each spell read.0 ++ read.1.1
  pub count : length read.0 ≡ k
  pub all : All P read.0

pub many_takes : {X : Type 0} (item : ℕ → Left → Result (X × Left) Flaw) (spell : X → List ℕ) (P : X → Type 0) → ((j : ℕ) → IsItem (item j) spell P) →
    (j k : ℕ) (s : Left) (read : List X × Left) → many_at item j k s ≡ Ok read → Many spell P k s.1 read
unfolding many_at
many_takes item spell P is_item j zero s read e =
    subst (Many spell P 0 s.1) (ok_is ([], s) read e) (record { text_is = refl; count = refl; all = all_none P })
many_takes item spell P is_item j (suc k) s read e =
    let a = bind_ok (item j s) (λ first. many_at item (j + 1) k first.1 >>= λ others. Ok (first.0 ∷ others.0, others.1)) read e in
    let b = bind_ok (many_at item (j + 1) k a.0.1) (λ others. Ok (a.0.0 ∷ others.0, others.1)) read a.2 in
    let first = (is_item j).takes s a.0.0 a.0.1 a.1 in
    let others = many_takes item spell P is_item (j + 1) k a.0.1 b.0 b.1 in
    subst (Many spell P (suc k) s.1) (ok_is (a.0.0 ∷ b.0.0, b.0.1) read b.2) (record {
      text_is = joined s.1 (spell a.0.0) a.0.1.1 (each spell b.0.0) b.0.1.1 first.0 others.text_is;
      count = ap suc others.count;
      all = all_cons P a.0.0 b.0.0 first.1 others.all;
    })

pub many_again : {X : Type 0} (item : ℕ → Left → Result (X × Left) Flaw) (spell : X → List ℕ) (P : X → Type 0) → ((j : ℕ) → IsItem (item j) spell P) →
    (xs : List X) (j i : ℕ) (rest : List ℕ) → All P xs → (n : ℕ) × (many_at item j (length xs) (i, each spell xs ++ rest) ≡ Ok (xs, (n, rest)))
unfolding many_at
many_again item spell P is_item [] j i rest all = (i, refl)
many_again item spell P is_item (x ∷ xs) j i rest all =
    let first = (is_item j).again i x (each spell xs ++ rest) (all_first P x xs all) in
    let others = many_again item spell P is_item xs (j + 1) first.0 rest (all_rest P x xs all) in
    (others.0, rw (append_assoc (spell x) (each spell xs) rest, first.1, others.1) refl)

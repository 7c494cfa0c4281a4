-- Edges without crossings: their orders, and the loose drawing that a flat map of them gives.
use Rattle.std.proofs.Common.{◌≡◌, ℕ, ◌<◌, Bool, true, false, cond, eqb, inl, inr, List, [], ◌∷◌, ◌++◌, ◌+◌, length, take, drop, refl, sym, ◌∙◌, ap, subst, arith, length-append, length-drop}
use Rattle.std.specs.List.{IsDistinct, range_with_len}
use Rattle.std.specs.Prelude.{filter, nat_eq}
use Rattle.std.proofs.lemmas.Bool.{both_ways, cases_Bool, cond-false, cond-true}
use Rattle.std.proofs.lemmas.List.{append-nil, length-replicate, length-take}
use Rattle.std.proofs.lemmas.List.Elements.{All-filter, filter-append}
use Rattle.std.proofs.lemmas.List.Kept.{IsStrictlyIncreasing-filter}
use Rattle.xn_model.specs.Graph.{Graph}
use Rattle.xn_model.specs.Lists.{has}
use Rattle.xn_model.specs.Orders.{IsEdgeList, IsOrders, order_at}
use Rattle.xn_model.proofs.Ranges.{edge_list, range-push}
use Rattle.xn_insert.specs.Calls.{DrawsKept}
use Rattle.xn_map.specs.Listed.{ListedMap}
use Rattle.xn_upper.specs.Upper.{AreKept, empty_lists}

-- no edge has a crosser
none_at : (edges : List ℕ) (e : ℕ) → order_at edges (empty_lists edges) e ≡ []
none_at [] e = refl
none_at (x ∷ xs) e = elim (cases_Bool (eqb x e)) [
  | inl here ↦ cond-true _ _ _ here
  | inr later ↦ cond-false _ _ _ later ∙ none_at xs e
]

nothing : (edges : List ℕ) (e f : ℕ) → has (order_at edges (empty_lists edges) e) f ≡ true → ⊥
nothing edges e f there = both_ways false refl (sym (ap (λ l. has l f) (none_at edges e)) ∙ there)

distinct_none : IsDistinct nat_eq []
unfolding IsDistinct
distinct_none = tt

pub bare_orders : (ends : List (ℕ × ℕ)) (edges : List ℕ) → IsEdgeList (length ends) edges → IsOrders ends edges (order_at edges (empty_lists edges))
bare_orders ends edges list = record {
  edge_list = list;
  within = λ e f there. absurd (nothing edges e f there);
  no_repeats = λ e. subst (IsDistinct nat_eq) (sym (none_at edges e)) distinct_none;
  independent = λ e f there. absurd (nothing edges e f there);
  both_ways = λ e f there. absurd (nothing edges e f there);
}

pub drawn_kept : (g : Graph) (marks : List Bool) (edges : List ℕ) (map : ListedMap) → AreKept g marks edges map → DrawsKept g edges (empty_lists edges) map
drawn_kept g marks edges map kept = record {
  fits = length-replicate (length edges) [];
  web = kept.flat.web_is;
  drawing = record {
    orders = bare_orders g.ends edges kept.edge_list;
    is_flat_map = kept.flat.flat;
    crosses = λ e f low there. absurd (nothing edges e f there);
  };
}

-- those of the first numbers of which a test holds
pub edge_list-filter : (n : ℕ) (t : ℕ → Bool) → IsEdgeList n (filter t (range_with_len 0 n))
edge_list-filter n t = record {
  rise = IsStrictlyIncreasing-filter t (range_with_len 0 n) (edge_list n).rise;
  below = All-filter t (λ e. e < n) (range_with_len 0 n) (edge_list n).below;
}

-- one number more passes the test, or doesn't
pub filter_yes : (t : ℕ → Bool) (n : ℕ) → t n ≡ true → filter t (range_with_len 0 (n + 1)) ≡ filter t (range_with_len 0 n) ++ n ∷ []
filter_yes t n passes =
    ap (filter t) (range-push n) ∙ filter-append t (range_with_len 0 n) (n ∷ []) ∙ ap (λ b. filter t (range_with_len 0 n) ++ cond b (n ∷ []) []) passes

pub filter_no : (t : ℕ → Bool) (n : ℕ) → t n ≡ false → filter t (range_with_len 0 (n + 1)) ≡ filter t (range_with_len 0 n)
filter_no t n fails =
    ap (filter t) (range-push n) ∙ filter-append t (range_with_len 0 n) (n ∷ []) ∙ ap (λ b. filter t (range_with_len 0 n) ++ cond b (n ∷ []) []) fails
    ∙ append-nil (filter t (range_with_len 0 n))

-- what a slice of a vector was changed to is as long
pub as_long : (k n : ℕ) (new old : List Bool) → k ≡ n → length old ≡ n → length new ≡ n → length (take k (new ++ drop (length new) old)) ≡ n
as_long k n new old k_is old_is new_is = simp (length-take, length-append, length-drop) (omega (arith, k_is, old_is, new_is))

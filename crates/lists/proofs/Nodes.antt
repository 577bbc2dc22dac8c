-- What the node list's functions do, in the theory's definitions.
use Rattle.std.proofs.Common.{◌≡◌, sym, ap, ap₂, ◌∙◌, true, Option, None, Some, List, [], ◌∷◌, ◌++◌, ℕ, ◌+◌, ◌*◌, ◌^◌, ◌≤◌, ◌<◌, add-one, arith, Fits, length, get_or, set}
use Rattle.std.specs.Option.{option_map}
use Rattle.std.proofs.lemmas.Bool.{and_from, eq-eqb}
use mir.Syntax.{w64}
use Rattle.astar.specs.Search.{find}
use Rattle.astar.specs.Rows.{length_rows, get_d_rows, rows_same, rows_more, rows_set}
use Rattle.astar.specs.Places.{NotBefore, only_place, found_at, not_found, stored_at, stored_new, once_set, once_new}
use Rattle.window.specs.declared.PackedState.{PackedState}
use Rattle.window.specs.State.{whole}
use Rattle.nodes.specs.Nodes.{row_at, is_state, lookup, Chained, Wrote, rows as newest}
use Rattle.nodes.specs.declared.Row.{Row}
use Rattle.nodes.proofs.Lemmas.{state_is, lookup_found, lookup_missing}
use Rattle.lists.specs.View.{SearchNode, node_of, node_at, nodes_of, blank, Kept, Sought, Stored}

-- ---- a state as one number

-- a node of the number of a state is of the state
is_state_from : (r : Row) (s : PackedState) → r.state.lo < 2 ^ 64 → s.lo < 2 ^ 64 → whole r.state ≡ whole s → is_state r s ≡ true
unfolding whole
is_state_from r s l m e = and_from _ _ (eq-eqb r.state.hi s.hi (omega arith)) (eq-eqb r.state.lo s.lo (omega arith))

at_row : (xs : List ℕ) (n k : ℕ) → k < n → get_or (nodes_of xs n) k blank ≡ node_at xs k
at_row xs n k l = get_d_rows n (node_at xs) k blank l

-- node i is of the state
module _ (xs hs : List ℕ) (n : ℕ) (s : PackedState) (K : Kept xs hs n) (i : ℕ) (l : i < n) (st : is_state (row_at xs i) s ≡ true) where
  long : i < length (nodes_of xs n)
  long = rw (length_rows n (node_at xs)) l

  state_there : (get_or (nodes_of xs n) i blank).state ≡ whole s
  state_there = ap (λ (x : SearchNode). x.state) (at_row xs n i l) ∙ ap whole (state_is xs i s st)

  only : NotBefore blank (whole s) i (nodes_of xs n)
  only = only_place blank (whole s) (nodes_of xs n) i K.once long state_there

  sought_at : Some (node_at xs i) ≡ find (whole s) (nodes_of xs n)
  sought_at = sym (found_at blank (whole s) (nodes_of xs n) i long state_there only ∙ ap {B = Option SearchNode} Some (at_row xs n i l))

-- ---- seeking

module _ (xs hs : List ℕ) (n : ℕ) (s : PackedState) (K : Kept xs hs n) (fit : (k : ℕ) → Fits w64 (get_or xs k 0)) (low : s.lo < 2 ^ 64) where
  missing : None ≡ lookup (newest xs n) s → NotBefore blank (whole s) n (nodes_of xs n)
  missing e k l p =
      lookup_missing xs s n e k l (is_state_from (row_at xs k) s (fit (k * 8 + 1)).fits low (sym (ap (λ (x : SearchNode). x.state) (at_row xs n k l)) ∙ p))

  found_is : (r : Option ℕ) → r ≡ lookup (newest xs n) s → option_map (node_at xs) r ≡ find (whole s) (nodes_of xs n)
  found_is None e = sym (not_found blank (whole s) (nodes_of xs n) (rw (length_rows n (node_at xs)) (missing e)))
  found_is (Some i) e = let h = lookup_found xs s i n e in sought_at xs hs n s K i h.0 h.1

  pub sought : (r : Option ℕ) → r ≡ lookup (newest xs n) s → Sought xs n s r
  sought r e = record { looked = e; found = found_is r e; missing = λ z. missing (sym z ∙ e) }

-- for a caller whose look-up found i
module _ (xs : List ℕ) (n : ℕ) (s : PackedState) (i : ℕ) (r : Option ℕ) (is : r ≡ Some i) (S : Sought xs n s r) where
  there : (i < n) × (is_state (row_at xs i) s ≡ true)
  there = lookup_found xs s i n (sym is ∙ S.looked)

  pub there_lt : i < n
  there_lt = there.0

  pub there_state : is_state (row_at xs i) s ≡ true
  there_state = there.1

  pub there_room : (hs : List ℕ) → Kept xs hs n → i * 8 + 8 ≤ length xs
  there_room hs K = omega (arith, there_lt, K.chained.room)

-- ---- storing

-- v is a row whose state was sought
module _ (xs ys hs : List ℕ) (n : ℕ) (v : Row) (K : Kept xs hs n) (at : Option ℕ) (S : Sought xs n v.state at) where
  module _ (gs : List ℕ) (no : at ≡ None) (C : Chained ys gs (n + 1)) (W : Wrote xs ys n v) where
    before_all : NotBefore blank (node_of v).state (length (nodes_of xs n)) (nodes_of xs n)
    before_all = rw (length_rows n (node_at xs)) (S.missing no)

    more_nodes : nodes_of ys (n + 1) ≡ nodes_of xs n ++ (node_of v ∷ [])
    more_nodes =
        ap (nodes_of ys) (add-one n)
        ∙ rows_more n (node_at ys)
        ∙ ap₂ (λ (l : List SearchNode) (x : SearchNode). l ++ (x ∷ [])) (rows_same n (node_at ys) (node_at xs) (λ k l. ap node_of (W.others k (λ e. omega arith)))) (ap node_of W.new)

    pub stored_insert : Stored xs n (node_of v) ys gs (n + 1)
    stored_insert = record {
      stored = more_nodes ∙ sym (stored_new blank (node_of v) (nodes_of xs n) before_all);
      kept = record { chained = C; once = rw more_nodes (once_new blank (node_of v) (nodes_of xs n) before_all K.once) };
      most = omega arith;
    }

  module _ (i : ℕ) (is : at ≡ Some i) (C : (gs : List ℕ) → Chained xs gs n → Chained ys gs n) (W : Wrote xs ys i v) where
    within : i < n
    within = there_lt xs n v.state i at is S

    state : is_state (row_at xs i) v.state ≡ true
    state = there_state xs n v.state i at is S

    inside : i < length (nodes_of xs n)
    inside = long xs hs n v.state K i within state

    set_nodes : nodes_of ys n ≡ set (nodes_of xs n) i (node_of v)
    set_nodes = rows_set n (node_at xs) (node_at ys) i (λ k l ne. ap node_of (W.others k ne)) ∙ ap (set (nodes_of xs n) i) (ap node_of W.new)

    was : (get_or (nodes_of xs n) i blank).state ≡ (node_of v).state
    was = state_there xs hs n v.state K i within state

    pub stored_update : Stored xs n (node_of v) ys hs n
    stored_update = record {
      stored = set_nodes ∙ sym (stored_at blank (node_of v) (nodes_of xs n) i inside was (only xs hs n v.state K i within state));
      kept = record { chained = C hs K.chained; once = rw set_nodes (once_set blank (node_of v) (nodes_of xs n) i (sym was) K.once) };
      most = omega arith;
    }

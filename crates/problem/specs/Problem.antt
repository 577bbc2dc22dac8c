-- The planner's search as the abstract A* has it: states are windows as integers, any number counts as one, and steps are their codes.
use Rattle.std.specs.Prelude.{ℕ, zero, suc, ◌+◌, ◌*◌, ◌/◌, ◌%◌, ◌^◌, ◌≤◌, ◌≡◌, Bool, true, false, ltb, length}
use Rattle.std.proofs.Common.{sym, ap, subst, ⊎_elim, arith, mod-lt, pow_pos}
use mathlib.Core.List.Memᴰ
use mathlib.Core.List.{List, [], ◌∷◌, map, Memᴰ}
use Rattle.std.specs.Prelude.{Option, None, Some}
use Rattle.std.proofs.lemmas.List.{length-map}
use Rattle.costs.specs.declared.Cost.{Cost}
use Rattle.costs.specs.declared.Step.{Step}
use Rattle.costs.specs.Table.{prices_fault}
use Rattle.costs.specs.Step.{pair_of, code_of, decoded}
use Rattle.costs.specs.Laws.{OperandFits, decoded_code}
use Rattle.replay.specs.Machine.{after}
use Rattle.window.specs.Pack.{pack, Keys}
use Rattle.window.specs.Decode.{decode, stop, decode_pack}
use Rattle.successors.specs.Parts.{All}
use Rattle.successors.specs.Successors.{Question, price_by, steps_from, depth_of, last_depth}
use Rattle.successors.specs.Limits.{Bounds, steps_at_most}
use Rattle.heuristic.specs.Heuristic.{heuristic_of}
use Rattle.heuristic.specs.Steady.{Cheap, cheap}
use Rattle.algebra.specs.GasBytes.{gas_bytes}
use Rattle.astar.specs.Search as search
use Rattle.astar.specs.Room.{Bounded}

-- the depth of the Swap just made, 0 if the step just made was none, by its code
abbrev pub depth_in : Option Step → ℕ
depth_in (Some s) = depth_of s
depth_in None = 0

abbrev pub depth_of_code : Option ℕ → ℕ
depth_of_code None = 0
depth_of_code (Some c) = depth_in (decoded c)

-- the same as that of the step
pub depth_of_code_lem : (s : Step) → OperandFits s → depth_of_code (Some (code_of s)) ≡ last_depth (Some s)
depth_of_code_lem s f = ap depth_in (decoded_code s f)

-- a successor of the window w: the window after a step, the step's listed price, the step
abbrev pub edge : (prices w : List ℕ) → Step → search.Succ Cost ℕ
edge prices w s = record { to = pack 6 (after s w); price = price_by prices s; by = code_of s }

-- the successors of a window, where last is the depth of the Swap just made
abbrev pub edges_from : Question → List ℕ → ℕ → List (search.Succ Cost ℕ)
edges_from q w last = map (edge q.prices w) (steps_from q w last)

-- the problem of a question and a start window
abbrev pub problem_of : Question → List ℕ → search.Problem gas_bytes
problem_of q start =
    record {
      Step = ℕ;
      start = pack 6 start;
      goal = pack 6 q.goal;
      est = λ v. heuristic_of q.prices q.rules.dup_max q.goal (decode 6 21 v);
      after = λ v prev. edges_from q (decode 6 21 v) (depth_of_code prev);
    }

-- ---- at a window's number it is the window's

pub after_window : (q : Question) (start w : List ℕ) (prev : Option ℕ) → Keys 6 w → length w ≤ 21 → (problem_of q start).after (pack 6 w) prev ≡ edges_from q w (depth_of_code prev)
after_window q start w prev k l = ap (λ (u : List ℕ). edges_from q u (depth_of_code prev)) (decode_pack 6 (omega arith) 21 w k l)

pub est_window : (q : Question) (start w : List ℕ) → Keys 6 w → length w ≤ 21 → (problem_of q start).est (pack 6 w) ≡ heuristic_of q.prices q.rules.dup_max q.goal w
est_window q start w k l = ap (heuristic_of q.prices q.rules.dup_max q.goal) (decode_pack 6 (omega arith) 21 w k l)

-- any number stands for a window of at most 21 keys below 64
stop_keys : (b : Bool) (xs : List ℕ) → Keys 6 xs → Keys 6 (stop b xs)
stop_keys true xs h = tt
stop_keys false xs h = h

pub decode_keys : (n v : ℕ) → Keys 6 (decode 6 n v)
decode_keys zero v = tt
decode_keys (suc n) v = stop_keys (ltb v 2) (v % 2 ^ 6 ∷ decode 6 n (v / 2 ^ 6)) (mod-lt v (pow_pos 6), decode_keys n (v / 2 ^ 6))

stop_length : (b : Bool) (xs : List ℕ) (n : ℕ) → length xs ≤ n → length (stop b xs) ≤ n
stop_length true xs n h = omega arith
stop_length false xs n h = h

pub decode_length : (n v : ℕ) → length (decode 6 n v) ≤ n
decode_length zero v = omega arith
decode_length (suc n) v = stop_length (ltb v 2) (v % 2 ^ 6 ∷ decode 6 n (v / 2 ^ 6)) (suc n) (omega (arith, decode_length n (v / 2 ^ 6)))

-- ---- its bounds

-- a member of a list made by f is f of a member that has what all have
pub mapped {ℓ} : {A : Type ℓ} {B : Type 0} (P : A → Type 0) (f : A → B) (xs : List A) → All P xs → (y : B) → Memᴰ y (map f xs) → (a : A) × ((y ≡ f a) × P a)
mapped P f [] h y m = absurd (Memᴰ.not-nil m)
mapped P f (x ∷ xs) h y m = ⊎_elim (λ e. (x, (e, h.0))) (λ k. mapped P f xs h.1 y k) (Memᴰ.cases_cons m)

dear_least : (prices : List ℕ) → Cheap prices → (s : Step) → gas_bytes.size (price_by prices s) ≤ 30000
unfolding price_by
dear_least prices ch s = omega (arith, ch (2 * pair_of s), ch (2 * pair_of s + 1))

some_step : (prices w : List ℕ) (ss : List Step) (x : search.Succ Cost ℕ) → Memᴰ x (map (edge prices w) ss) → (s : Step) × (x ≡ edge prices w s)
some_step prices w [] x m = absurd (Memᴰ.not-nil m)
some_step prices w (s ∷ ss) x m = ⊎_elim (λ e. (s, e)) (λ k. some_step prices w ss x k) (Memᴰ.cases_cons m)

-- at most 50 successors, and no price above 30,000, at every number
pub bounded : (q : Question) (start : List ℕ) → Bounds q → prices_fault q.prices ≡ false → Bounded gas_bytes (problem_of q start) 50 30000
bounded q start b f =
    record {
      number = λ v prev. rw (length-map (steps_from q (decode 6 21 v) (depth_of_code prev)) (edge q.prices (decode 6 21 v))) (steps_at_most q b (decode 6 21 v) (depth_of_code prev));
      prices = λ v prev x m. let r = some_step q.prices (decode 6 21 v) (steps_from q (decode 6 21 v) (depth_of_code prev)) x m in subst (λ (y : search.Succ Cost ℕ). gas_bytes.size y.price ≤ 30000) (sym r.1) (dear_least q.prices (cheap q.prices f) r.0);
    }

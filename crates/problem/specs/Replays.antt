-- A walk of the problem is a plan that replays, and costs what its steps are listed at.
use Rattle.std.specs.Prelude.{ℕ, suc, ◌≤◌, ◌<◌, ◌≡◌, refl, true, ◌&&◌, ◌||◌, ltb, eqb, length, get_or}
use Rattle.std.proofs.Common.{◌∙◌, arith, ltb-true}
use Rattle.std.proofs.Math.Path.{ap, subst}
use mathlib.Core.List.{List, [], ◌∷◌, Memᴰ}
use Rattle.std.specs.Prelude.{Option, Some}
use Rattle.costs.specs.declared.Cost.{Cost}
use Rattle.costs.specs.declared.Step.{Step}
use Rattle.costs.specs.declared.Step.TheVariants.{Pop, Dup, Swap, PushImm, LoadVal}
use Rattle.costs.specs.Cost.{plus}
use Rattle.costs.specs.Price.{price_of, cost_from}
use Rattle.costs.specs.Step.{decoded}
use Rattle.costs.specs.Laws.{OperandFits, decoded_code}
use Rattle.replay.specs.Machine.{Rules, ends, room, immediate, value, allows, after, step_on, ran_on}
use Rattle.replay.specs.Laws.{and_left, and_right, after_fits}
use Rattle.window.specs.Pack.{pack, Keys}
use Rattle.window.specs.Laws.{pack_inj}
use Rattle.window.specs.Decode.{decode, decode_pack}
use Rattle.successors.specs.Successors.{Question, price_by, steps_from}
use Rattle.successors.specs.Limits.{Bounds, Fine, steps_fine}
use Rattle.algebra.specs.GasBytes.{gas_bytes, sum_is}
use Rattle.astar.specs.Search as search
use Rattle.astar.specs.Walk.{Walk, steps, sum_onto}
use Rattle.problem.specs.Problem.{edge, edges_from, depth_of_code, problem_of, mapped, decode_keys, decode_length}

-- an allowed step's operand fits its code
pub operand_fits : (q : Rules) (s : Step) (n : ℕ) → n ≤ 21 → allows q s n ≡ true → OperandFits s
unfolding allows immediate value
operand_fits q Pop n l h = tt
operand_fits q (Dup p) n l h =
    let g = and_right (ltb p q.dup_max) (ltb p n && room q.max_len n) h in
    let a : p < n = ltb-true p n (and_left (ltb p n) (room q.max_len n) g) in
    omega arith
operand_fits q (Swap d) n l h =
    let g = and_right (ltb 0 d) (ltb d q.swap_max && ltb d n) h in
    let a : d < n = ltb-true d n (and_right (ltb d q.swap_max) (ltb d n) g) in
    omega arith
operand_fits q (PushImm k) n l h =
    let g = and_left (ltb k 64 && (eqb (get_or q.kinds k 0) 1 || eqb (get_or q.kinds k 0) 2)) (room q.max_len n) h in
    let a : k < 64 = ltb-true k 64 (and_left (ltb k 64) (eqb (get_or q.kinds k 0) 1 || eqb (get_or q.kinds k 0) 2) g) in
    omega arith
operand_fits q (LoadVal k) n l h =
    let g = and_left (ltb k 64 && eqb (get_or q.kinds k 0) 0) (room q.max_len n) h in
    let a : k < 64 = ltb-true k 64 (and_left (ltb k 64) (eqb (get_or q.kinds k 0) 0) g) in
    omega arith

-- a successor of the window w: a step that the machine allows leads to it
pub record Made (q : Question) (w : List ℕ) (x : search.Succ Cost ℕ) : Type 0 where
  pub step : Step
  pub is : x ≡ edge q.prices w step
  pub fine : Fine q.rules w step
  pub operand : OperandFits step

made_from : (q : Question) → Bounds q → (w : List ℕ) → Keys 6 w → length w ≤ 21 → (last : ℕ) (x : search.Succ Cost ℕ) → Memᴰ x (edges_from q w last) → Made q w x
made_from q b w k l last x m =
    let r = mapped (Fine q.rules w) (edge q.prices w) (steps_from q w last) (steps_fine q w k b.keys last) x m in
    record { step = r.0; is = r.1.0; fine = r.1.1; operand = operand_fits q.rules r.0 (length w) l r.1.1.allowed }

sum_gas : (a d : Cost) → (plus a d).gas ≤ 4294967295
unfolding plus
sum_gas a d = omega arith

sum_bytes : (a d : Cost) → (plus a d).bytes ≤ 4294967295
unfolding plus
sum_bytes a d = omega arith

module _ (q : Question) (b : Bounds q) (start : List ℕ) where
  -- every successor of any number
  pub successor_made : (v : ℕ) (prev : Option ℕ) (x : search.Succ Cost ℕ) → Memᴰ x ((problem_of q start).after v prev) → Made q (decode 6 21 v) x
  successor_made v prev x m = made_from q b (decode 6 21 v) (decode_keys 21 v) (decode_length 21 v) (depth_of_code prev) x m

  -- its price is the listed one
  pub price_listed : (v : ℕ) (prev : Option ℕ) (x : search.Succ Cost ℕ) → Memᴰ x ((problem_of q start).after v prev) → x.price ≡ price_of q.prices (decoded x.by)
  unfolding price_by
  price_listed v prev x m =
      let r = successor_made v prev x m in
      rw (r.is, decoded_code r.step r.operand)

  -- a successor that one step of the machine leads to, within the greatest length, with keys below 64
  pub record Led (w : List ℕ) (x : search.Succ Cost ℕ) : Type 0 where
    pub window : List ℕ
    pub leads : step_on q.rules (decoded x.by) w ≡ Some window
    pub packed : x.to ≡ pack 6 window
    pub keys : Keys 6 window
    pub fits : length window ≤ q.rules.max_len

  led_by : (w : List ℕ) (x : search.Succ Cost ℕ) → length w ≤ q.rules.max_len → Made q w x → Led w x
  led_by w x l r =
      record {
        window = after r.step w;
        leads = rw (r.is, decoded_code r.step r.operand, r.fine.allowed);
        packed = rw r.is;
        keys = r.fine.keys;
        fits = after_fits q.rules r.step w l r.fine.allowed;
      }

  pub successor_led : (w : List ℕ) → Keys 6 w → length w ≤ q.rules.max_len → (prev : Option ℕ) (x : search.Succ Cost ℕ) → Memᴰ x ((problem_of q start).after (pack 6 w) prev) → Led w x
  successor_led w k l prev x m =
      let z : length w ≤ 21 = omega (arith, b.window) in
      led_by w x l (made_from q b w k z (depth_of_code prev) x (subst (λ (u : List ℕ). Memᴰ x (edges_from q u (depth_of_code prev))) (decode_pack 6 (omega arith) 21 w k z) m))

  -- the steps of a walk from one window to another, from index i on, lead the machine from the one to the other
  pub walk_runs : (xs : List (search.Succ Cost ℕ)) (w u : List ℕ) (i : ℕ) → Keys 6 w → length w ≤ q.rules.max_len → Keys 6 u → Walk gas_bytes (problem_of q start) (pack 6 w) xs (pack 6 u) → ran_on q.rules i (steps gas_bytes (problem_of q start) xs) w ≡ ends u
  unfolding ran_on
  walk_runs [] w u i kw l ku e = ap ends (pack_inj 6 (omega arith) w u kw ku e)
  walk_runs (x ∷ xs) w u i kw l ku t =
      let r = successor_led w kw l t.0.0 x t.0.1 in
      let t' : Walk gas_bytes (problem_of q start) (pack 6 r.window) xs (pack 6 u) = subst (λ (v : ℕ). Walk gas_bytes (problem_of q start) v xs (pack 6 u)) r.packed t.1 in
      rw r.leads (walk_runs xs r.window u (suc i) r.keys r.fits ku t')

  -- a walk from the start to the goal replays from start to goal
  pub walk_replays : (xs : List (search.Succ Cost ℕ)) → Keys 6 start → length start ≤ q.rules.max_len → Walk gas_bytes (problem_of q start) (problem_of q start).start xs (problem_of q start).goal → ran_on q.rules 0 (steps gas_bytes (problem_of q start) xs) start ≡ ends q.goal
  walk_replays xs k l t = walk_runs xs start q.goal 0 k l b.keys t

  -- the sum of a walk's prices, onto a cost of two u32 numbers, is the cost of its steps
  pub walk_costs : (xs : List (search.Succ Cost ℕ)) (v u : ℕ) (c : Cost) → c.gas ≤ 4294967295 → c.bytes ≤ 4294967295 → Walk gas_bytes (problem_of q start) v xs u → sum_onto gas_bytes (problem_of q start) c xs ≡ cost_from q.prices c (steps gas_bytes (problem_of q start) xs)
  walk_costs [] v u c g h t = refl
  walk_costs (x ∷ xs) v u c g h t =
      let p : x.price ≡ price_of q.prices (decoded x.by) = price_listed v t.0.0 x t.0.1 in
      let s : gas_bytes.◌⊞◌ c x.price ≡ plus c x.price = sum_is c x.price g h in
      let n : Cost = plus c x.price in
      ap (λ (d : Cost). sum_onto gas_bytes (problem_of q start) d xs) s
      ∙ walk_costs xs x.to u n (sum_gas c x.price) (sum_bytes c x.price) t.1
      ∙ ap (λ (d : Cost). cost_from q.prices (plus c d) (steps gas_bytes (problem_of q start) xs)) p

-- What an accepted planning may rest on.
use Rattle.std.specs.Prelude.{ℕ, ◌/◌, ◌≤◌, max, Bool, true, false, ◌||◌, List, [], ◌∷◌, ◌≡◌, ltb, length}
use Rattle.std.proofs.Common.{ap, subst, arith, ltb-false}
use Rattle.costs.specs.Laws.{or_left, passed}
use Rattle.costs.specs.Table.{any_over, kinds_fault, prices_fault}
use Rattle.replay.specs.Machine.{Rules, ruled}
use Rattle.replay.specs.Beneath.{narrowed, too_tall, narrowed_most}
use Rattle.replay.specs.declared.rules.SearchCfg.{SearchCfg}
use Rattle.replay.specs.Replay.{reach_fault}
use Rattle.replay.specs.Steps.{over_get}
use Rattle.window.specs.Pack.{Keys}
use Rattle.star_swap.specs.Check.{Window}
use Rattle.successors.specs.Limits.{Bounds}
use Rattle.astar.specs.Search.{Allowance}
use Rattle.run.specs.View.{allowance, Roomy}
use Rattle.run.specs.declared.Allowances.{Allowances}
use Rattle.table.specs.Table as search
use Rattle.solve.specs.View.{StartFits}
use Rattle.planner.specs.Refusal.{Asked, Lent, narrow, allowance_fault, over_length, too_long, entries, short_lists, plan_table, plan_refusal}
use Rattle.planner.specs.Planned.{question_of}

pub record Accepted (a : Asked) (l : Lent) : Type 0 where
  pub dup : a.rules.dup_max ≤ 16
  pub swap : a.rules.swap_max ≤ 17
  pub window : a.rules.max_len ≤ 21
  pub expansions : a.allowance.expansions ≤ 65536
  pub states_without : a.allowance.states_without ≤ 65536
  pub states_with : a.allowance.states_with ≤ 65536
  pub kinds : kinds_fault a.rules.kinds ≡ false
  pub prices : prices_fault a.prices ≡ false
  pub start_keys : any_over 63 a.start ≡ false
  pub goal_keys : any_over 63 a.goal ≡ false
  pub start_reach : length a.start ≤ a.rules.swap_max
  pub start_fits : length a.start ≤ a.rules.max_len
  pub goal_reach : length a.goal ≤ a.rules.swap_max
  pub goal_fits : length a.goal ≤ a.rules.max_len
  pub nodes : entries a.allowance ≤ l.nodes / 8
  pub heads : entries a.allowance ≤ l.heads
  pub list : entries a.allowance ≤ l.list / 4
  pub steps : max 128 a.allowance.expansions ≤ l.steps

or_right : (a b : Bool) → (a || b) ≡ false → b ≡ false
or_right true b h = let z : ◌≡◌ {A = ℕ} 0 1 = cc in absurd (omega arith)
or_right false b h = h

-- neither of two
neither : (a b : Bool) → (a || b) ≡ false → (a ≡ false) × (b ≡ false)
neither a b h = (or_left a b h, or_right a b h)

pub reaches : (dup swap : ℕ) → reach_fault dup swap ≡ false → (dup ≤ 16) × (swap ≤ 17)
unfolding reach_fault
reaches dup swap h = let n = neither (ltb 16 dup) (ltb 17 swap) h in (ltb-false _ _ n.0, ltb-false _ _ n.1)

pub within_length : (q : Rules) (w : List ℕ) → too_long q w ≡ false → (length w ≤ q.swap_max) × (length w ≤ q.max_len)
unfolding over_length
within_length q w h =
    let n = neither (ltb q.swap_max (length w)) (ltb q.max_len (length w)) h in
    (ltb-false _ _ n.0, ltb-false _ _ n.1)

-- what it tells of the whole stack, and of max_len as it was given
pub record Stands (a : Asked) : Type 0 where
  pub given : ltb 21 a.rules.max_len ≡ false
  pub stack : too_tall a.rules.beneath (length a.start) ≡ false

-- the rows of the table, read
rows : (a : Asked) (l : Lent) → plan_refusal a l ≡ 0 → Accepted (narrow a) l × Stands a
unfolding plan_table allowance_fault short_lists
rows a l h =
    let A = a.allowance in
    let one = passed 0 (reach_fault a.rules.dup_max a.rules.swap_max) _ h in
    let two = passed 1 (ltb 21 a.rules.max_len) _ one.1 in
    let three = passed 2 (ltb 65536 A.expansions || (ltb 65536 A.states_without || ltb 65536 A.states_with)) _ two.1 in
    let four = passed 3 (kinds_fault a.rules.kinds || prices_fault a.prices) _ three.1 in
    let five = passed 4 (any_over 63 a.start || any_over 63 a.goal) _ four.1 in
    let twelve = passed 11 (too_tall a.rules.beneath (length a.start)) _ five.1 in
    let q = narrowed a.rules in
    let six = passed 5 (too_long q a.start || too_long q a.goal) _ twelve.1 in
    let seven = passed 6 (ltb (l.nodes / 8) (entries A) || (ltb l.heads (entries A) || (ltb (l.list / 4) (entries A) || ltb l.steps (max 128 A.expansions)))) 0 six.1 in
    let r = reaches _ _ one.0 in
    let x = neither (ltb 65536 A.expansions) (ltb 65536 A.states_without || ltb 65536 A.states_with) three.0 in
    let y = neither (ltb 65536 A.states_without) (ltb 65536 A.states_with) x.1 in
    let t = neither (kinds_fault a.rules.kinds) (prices_fault a.prices) four.0 in
    let k = neither (any_over 63 a.start) (any_over 63 a.goal) five.0 in
    let g = neither (too_long q a.start) (too_long q a.goal) six.0 in
    let gs = within_length q a.start g.0 in
    let gg = within_length q a.goal g.1 in
    let s1 = neither (ltb (l.nodes / 8) (entries A)) (ltb l.heads (entries A) || (ltb (l.list / 4) (entries A) || ltb l.steps (max 128 A.expansions))) seven.0 in
    let s2 = neither (ltb l.heads (entries A)) (ltb (l.list / 4) (entries A) || ltb l.steps (max 128 A.expansions)) s1.1 in
    let s3 = neither (ltb (l.list / 4) (entries A)) (ltb l.steps (max 128 A.expansions)) s2.1 in (
      record {
        dup = r.0;
        swap = r.1;
        window = omega (arith, narrowed_most a.rules, ltb-false 21 a.rules.max_len two.0);
        expansions = ltb-false _ _ x.0;
        states_without = ltb-false _ _ y.0;
        states_with = ltb-false _ _ y.1;
        kinds = t.0;
        prices = t.1;
        start_keys = k.0;
        goal_keys = k.1;
        start_reach = gs.0;
        start_fits = gs.1;
        goal_reach = gg.0;
        goal_fits = gg.1;
        nodes = ltb-false _ _ s1.0;
        heads = ltb-false _ _ s2.0;
        list = ltb-false _ _ s3.0;
        steps = ltb-false _ _ s3.1;
      },
      record { given = two.0; stack = twelve.0 },
    )

-- an accepted question is worked out with the narrowed rules
pub accepted : (a : Asked) (l : Lent) → plan_refusal a l ≡ 0 → Accepted (narrow a) l
accepted a l h = (rows a l h).0

pub stands : (a : Asked) (l : Lent) → plan_refusal a l ≡ 0 → Stands a
stands a l h = (rows a l h).1

-- the keys of a list with none over 63
pub keys_below : (w : List ℕ) → any_over 63 w ≡ false → Keys 6 w
keys_below [] h = tt
keys_below (k ∷ ks) h = (let l = over_get 63 (k ∷ ks) 0 h in omega arith, keys_below ks (or_right (ltb 63 k) (any_over 63 ks) h))

-- a window of the builders
pub window_of : (w : List ℕ) → any_over 63 w ≡ false → length w ≤ 21 → Window w
window_of w h l = record { short = l; keys = λ i b. let m = over_get 63 w i h in omega arith }

module _ (a : Asked) (l : Lent) (ok : Accepted a l) where
  pub bounds : Bounds (question_of a)
  bounds = record { dup = ok.dup; swap = ok.swap; window = ok.window; goal = omega (arith, ok.goal_reach, ok.swap); keys = keys_below a.goal ok.goal_keys }

  pub start_window : Window a.start
  start_window = window_of a.start ok.start_keys (omega (arith, ok.start_fits, ok.window))

  pub goal_window : Window a.goal
  goal_window = window_of a.goal ok.goal_keys (omega (arith, ok.goal_fits, ok.window))

-- what the search asks for
module _ (a : Asked) (cfg : SearchCfg) (kinds : List ℕ) (ruled-by : a.rules ≡ ruled cfg kinds) (l : Lent) (ok : Accepted a l) where
  pub search_question : search.Accepted cfg kinds a.prices a.goal
  search_question =
      record {
        bounds = subst (λ (q : Rules). Bounds (record { rules = q; prices = a.prices; goal = a.goal })) ruled-by (bounds a l ok);
        listed = ok.prices;
      }

  pub search_start : StartFits (record { rules = ruled cfg kinds; prices = a.prices; goal = a.goal }) a.start
  search_start = record { keys = keys_below a.start ok.start_keys; fits = subst (λ (q : Rules). length a.start ≤ q.max_len) ruled-by ok.start_fits }

-- there is room in the work lists
pub search_room : (a : Asked) (limits : Allowances) (xs os : List ℕ) (l : Lent) → a.allowance ≡ allowance limits → l.nodes ≡ length xs → l.list ≡ length os → Accepted a l → Roomy limits xs os
search_room a limits xs os l e f g ok =
    let w : a.allowance.states_without ≡ limits.states_without = ap (λ (A : Allowance). A.states_without) e in
    let v : a.allowance.states_with ≡ limits.states_with = ap (λ (A : Allowance). A.states_with) e in
    let n = ok.nodes in
    let m = ok.list in
    record { nodes_without = omega arith; nodes_with = omega arith; list_without = omega arith; list_with = omega arith }

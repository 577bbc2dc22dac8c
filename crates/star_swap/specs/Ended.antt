-- Keys without an arc: their circuits are empty.
use Rattle.std.specs.Prelude.{◌≡◌, refl, true, false, Option, Some, None, List, [], ◌∷◌, ◌++◌, Bool, not, ◌||◌, ℕ, zero, suc, ◌+◌, ◌*◌, ◌≤◌, ◌<◌, cond, eqb, length}
use Rattle.std.proofs.Common.{sym, add-one, arith, ◌∙◌}
use Rattle.std.specs.List.{fold}
use Rattle.std.specs.Option.{is_some}
use borrow.Author.Tests.{not-true}
use Rattle.costs.specs.Laws.{or_left}
use Rattle.star_swap.specs.Tests.{or_right}
use Rattle.star_swap.specs.Star.{at, Pick, nothing, arc, pick, trail, trail_step, trail_loop, circuits, star_swaps, codes}
use Rattle.star_swap.specs.Chain.{slot_of, is_none, slot, Chained, Taking, took_none}
use Rattle.star_swap.specs.StarCode.{Pair}
use Rattle.star_swap.specs.StarLoop.{StarInv, star_end, Writing}
use Rattle.star_swap.specs.declared.Arcs.{Arcs}

-- no key has an arc
pub record Ended (arcs : Arcs) : Type 0 where
  pub each : (k : ℕ) → k < 64 → slot arcs.head k ≡ None

none_is : (o : Option ℕ) → false ≡ is_some o → o ≡ None
none_is None f = refl
none_is (Some x) f = cc

-- a byte that is not 255 is a slot
pub has_slot : (i : ℕ) → not (eqb i 255) ≡ is_some (slot_of i)
unfolding slot_of
has_slot i = elim (eqb i 255) as (λ b. not b ≡ is_some (cond b None (Some i))) [ true ↦ refl | false ↦ refl ]

none_of : (l : List ℕ) (any : Bool) → fold (λ a s. a || not (eqb s 255)) any l ≡ false → (any ≡ false) × ((k : ℕ) → slot l k ≡ None)
none_of [] any e = (e, λ k. is_none)
none_of (s ∷ l) any e =
    let r = none_of l (any || not (eqb s 255)) e in (
      or_left any (not (eqb s 255)) r.0,
      λ k. elim k as (λ k. slot (s ∷ l) k ≡ None) [ zero ↦ none_is (slot_of s) (sym (or_right any (not (eqb s 255)) r.0) ∙ has_slot s) | suc k ↦ r.1 k ],
    )

pub ended_of : (arcs : Arcs) (any : Bool) → any ≡ fold (λ a s. a || not (eqb s 255)) false arcs.head → not any ≡ true → Ended arcs
ended_of arcs any e h = record { each = λ k l. (none_of arcs.head false (sym e ∙ not-true any h)).1 k }

-- a trail from a key without an arc
trail_ended : (n : ℕ) (g c : ℕ → ℕ) (k : ℕ) (R : List ℕ) (arcs : Arcs) → k < 64 → Chained n g R arcs → slot arcs.head k ≡ None → trail g c k R ≡ record { out = []; left = R }
unfolding trail trail_loop
trail_ended n g c k R arcs lt h e = go (pick g k R) ((took_none k arcs lt e).each n g R h)
  where
    go : (p : Pick) → Taking n g p None R arcs → trail_step [] [] R p (trail_loop g c k (2 * length R)) ≡ record { out = []; left = R }
    go nothing r = refl
    go (arc i R') r = let z : None ≡ Some i = r.0 in absurd cc

module _ (cur goal pre : List ℕ) (arcs : Arcs) (swaps : List ℕ) where
  open_text : (key : ℕ) (R : List ℕ) → trail (at goal) (at cur) key R ≡ record { out = []; left = R } → (m : ℕ) → key < 64 → key + m ≡ 64 →
      swaps ++ codes (circuits (at goal) (at cur) m key R) ≡ pre ++ codes (star_swaps cur goal) →
      (m' : ℕ) × (suc key + m' ≡ 64) × (swaps ++ codes (circuits (at goal) (at cur) m' (suc key) R) ≡ pre ++ codes (star_swaps cur goal))
  unfolding circuits
  open_text key R t zero l f x = absurd (omega arith)
  open_text key R t (suc m) l f x = (m, omega arith, (rw t at x))

  -- a key without an arc is passed over
  pub skipped : (key : ℕ) → StarInv cur goal pre arcs swaps key → key < 64 → false ≡ is_some (slot arcs.head key) → StarInv cur goal pre arcs swaps (key + 1)
  skipped key inv low f =
      let e : slot arcs.head key ≡ None = none_is (slot arcs.head key) f in
      let t : trail (at goal) (at cur) key inv.rest ≡ record { out = []; left = inv.rest } = trail_ended (length cur) (at goal) (at cur) key inv.rest arcs low inv.held e in
      let o = open_text key inv.rest t inv.more low inv.keys inv.text in
      rw (add-one key)
      (record {
        rest = inv.rest;
        more = o.0;
        held = inv.held;
        few = inv.few;
        bal = inv.bal;
        keys = o.1;
        text = o.2;
      })

  -- where no key has an arc all is written
  pub all_skipped : Pair cur goal → StarInv cur goal pre arcs swaps 0 → Ended arcs → swaps ≡ pre ++ codes (star_swaps cur goal)
  all_skipped p inv e = star_end cur goal pre p arcs swaps 64 (go 64 (omega arith)) (omega arith)
    where
      go : (key : ℕ) → key ≤ 64 → StarInv cur goal pre arcs swaps key
      go zero low = inv
      go (suc key) low = rw (← add-one key) (skipped key (go key (omega arith)) (omega arith) (rw (e.each key (omega arith))))

-- the same over the places of the list that is written
module _ (cur goal steps : List ℕ) (start : ℕ) (arcs : Arcs) (steps' : List ℕ) (r key : ℕ) (v : Writing cur goal steps start arcs steps' r key) where
  pub write_skipped : key < 64 → false ≡ is_some (slot arcs.head key) → Writing cur goal steps start arcs steps' r (key + 1)
  write_skipped low f = record { swaps = v.swaps; inv = skipped cur goal [] arcs v.swaps key v.inv low f; wrote = v.wrote }

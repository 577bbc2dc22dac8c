-- The invariant of star-swap's loop over the keys, and its steps.
use Rattle.std.specs.Prelude.{◌≡◌, refl, Bool, true, false, Some, None, eqb, length, set, take, drop}
use Rattle.std.specs.List.{slice_get}
use Rattle.std.proofs.Common.{sym, ap, subst, ◌∙◌, add-one, length-append}
use mathlib.Core.List.{List, [], ◌∷◌, ◌++◌, append_assoc, append-nil, map-append}
use Prim.Native.Nat.{ℕ, zero, suc, ◌+◌, ◌-◌, ◌≤◌, ◌<◌}
use native.Mathlib.Omega.{arith}
use native.Mathlib.Numerals.{unary_clauses}
use Rattle.std.proofs.lemmas.List.{length-map}
use Rattle.std.proofs.lemmas.Option.{slice_get_within, get_or_from_slice_get}
use Rattle.star_swap.specs.Count.{cnt_by}
use Rattle.star_swap.specs.Star.{at, last_of, entered, Trail, trail, circuits, slot_if, misplaced, star_swaps, code, codes}
use Rattle.star_swap.specs.Trail.{Done, trail_done}
use Rattle.star_swap.specs.Main.{Missed, first_missed}
use Rattle.star_swap.specs.Steps.{flat, cnt_by_flat, wrong_slots}
use Rattle.star_swap.specs.Thirty.{star_thirds}
use Rattle.star_swap.specs.Chain.{Chained, Ready, Given}
use Rattle.star_swap.specs.TrailCode.{empty_is}
use Rattle.star_swap.specs.Link.{from}
use Rattle.star_swap.specs.StarCode.{Pair, LinkedAt, Wrote, wrote_more, wrote_one}
use Rattle.star_swap.specs.declared.Arcs.{Arcs}

misplaced_length : (p : ℕ) (cur goal : List ℕ) → length (misplaced p cur goal) ≤ length cur
unfolding misplaced
misplaced_length p [] goal = omega arith
misplaced_length p (x ∷ cur) [] = omega arith
misplaced_length p (x ∷ cur) (y ∷ goal) = go (eqb x y) (misplaced_length (suc p) cur goal)
  where
    go : (t : Bool) → length (misplaced (suc p) cur goal) ≤ length cur → length (slot_if t p (misplaced (suc p) cur goal)) ≤ suc (length cur)
    go true h = omega arith
    go false h = omega arith

-- what the first trail starts from and gives
pub record First (cur goal : List ℕ) : Type 0 where
  pub few : length (wrong_slots cur goal) ≤ 20
  pub is_from : from cur goal 1 ≡ wrong_slots cur goal
  pub done : Done (at goal) (at cur) (at cur 0) (at goal 0) [] [] (wrong_slots cur goal) (trail (at goal) (at cur) (at cur 0) (wrong_slots cur goal))
  pub text : star_swaps cur goal ≡ (trail (at goal) (at cur) (at cur 0) (wrong_slots cur goal)).out ++ circuits (at goal) (at cur) 64 0 (trail (at goal) (at cur) (at cur 0) (wrong_slots cur goal)).left

pub first : (cur goal : List ℕ) → Pair cur goal → 0 < length cur → First cur goal
unfolding star_swaps wrong_slots from cnt_by
first [] goal p h = absurd (omega arith)
first (x ∷ cur) [] p h = absurd (omega (arith, p.routable.same_length))
first (x ∷ cur) (y ∷ goal) p h =
    let m : Missed (at (y ∷ goal)) (at (x ∷ cur)) 1 cur goal (misplaced 1 cur goal) = first_missed x cur y goal (omega (arith, p.routable.same_length)) in
    record {
      few = omega (arith, misplaced_length 1 cur goal, p.short);
      is_from = refl;
      done = trail_done (at (y ∷ goal)) (at (x ∷ cur)) x y (misplaced 1 cur goal) (λ k. omega (arith, m.bal k, p.routable.same_keys k));
      text = refl;
    }

pub star_few : (cur goal : List ℕ) → Pair cur goal → length (star_swaps cur goal) ≤ 30
star_few [] goal p = unfold star_swaps in (omega arith)
star_few (x ∷ cur) goal p = omega (arith, (first (x ∷ cur) goal p (omega arith)).few, star_thirds (x ∷ cur) goal p.routable)

-- the circuits of the keys below one are written behind the first trail
pub record StarInv (cur goal pre : List ℕ) (arcs : Arcs) (swaps : List ℕ) (key : ℕ) : Type 0 where
  pub rest : List ℕ
  pub more : ℕ
  pub held : Chained (length cur) (at goal) rest arcs
  pub few : length rest ≤ 20
  pub bal : (x : ℕ) → cnt_by (at goal) x rest ≡ cnt_by (at cur) x rest
  pub keys : key + more ≡ 64
  pub text : swaps ++ codes (circuits (at goal) (at cur) more key rest) ≡ pre ++ codes (star_swaps cur goal)

-- the key on top
top_is : (cur : List ℕ) (x : ℕ) → slice_get cur 0 ≡ Some x → (0 < length cur) × (at cur 0 ≡ x)
top_is cur x e = (slice_get_within cur 0 x e, get_or_from_slice_get cur 0 x 0 e)

-- a circuit is entered by the last slot of its list
last_is : (l : List ℕ) (y x : ℕ) → slice_get (y ∷ l) (length l) ≡ Some x → last_of (y ∷ l) ≡ x
unfolding last_of
last_is [] y x e = cc
last_is (z ∷ l) y x e = last_is l z x e

pub entered_is : (l : List ℕ) (x : ℕ) → slice_get l (length l - 1) ≡ Some x → entered l ≡ x ∷ l
entered_is [] x e = absurd cc
entered_is (y ∷ l) x e = ap (λ (z : ℕ). z ∷ y ∷ l) (last_is l y x (simp unary_clauses at e))

module _ (cur goal pre : List ℕ) (p : Pair cur goal) where
  -- what is written and what is to come is within 30 swaps
  pub whole_fits : (swaps l : List ℕ) → swaps ++ codes l ≡ pre ++ codes (star_swaps cur goal) → length swaps + length l ≤ length pre + 30
  whole_fits swaps l e =
      omega (
        arith,
        star_few cur goal p,
        ap length e,
        length-append swaps (codes l),
        length-append pre (codes (star_swaps cur goal)),
        length-map l code,
        length-map (star_swaps cur goal) code,
      )

  module _ (arcs : Arcs) (l : LinkedAt cur goal 1 arcs) (h : 0 < length cur) where
    f : First cur goal
    f = first cur goal p h

    held : Chained (length cur) (at goal) (wrong_slots cur goal) arcs
    held = rw f.is_from at (l.linked p.routable.same_length).held

    ready : Ready cur (at cur 0) arcs
    ready =
        record {
          need = at goal;
          slots = wrong_slots cur goal;
          held = held;
          few = f.few;
          short = p.short;
          start_key = p.cur_keys 0 h;
          keys = p.cur_keys;
        }

    begun : (arcs' : Arcs) (out : List ℕ) → Given cur (at cur 0) arcs arcs' out → StarInv cur goal pre arcs' (pre ++ codes out) 0
    begun arcs' out v =
        let t : Trail = trail (at goal) (at cur) (at cur 0) (wrong_slots cur goal) in
        let q = v.gave (at goal) (wrong_slots cur goal) held f.few in
        let sum = f.done.total flat 0 in
        let tail : List ℕ = circuits (at goal) (at cur) 64 0 t.left in
        record {
          rest = t.left;
          more = 64;
          held = q.1;
          few = unfold cnt_by in (omega (arith, sum, cnt_by_flat t.out, cnt_by_flat t.left, cnt_by_flat (wrong_slots cur goal), f.few));
          bal = f.done.bal;
          keys = refl;
          text = append_assoc pre (codes out) (codes tail) ∙ ap (λ (z : List ℕ). pre ++ z) (ap (λ (z : List ℕ). codes z ++ codes tail) q.0 ∙ sym (map-append code t.out tail) ∙ ap codes (sym f.text));
        }

  module _ (arcs : Arcs) (l : LinkedAt cur goal 1 arcs) (top : ℕ) (e : slice_get cur 0 ≡ Some top) where
    -- the first trail can start
    pub first_ready : Ready cur top arcs
    first_ready = subst (λ (k : ℕ). Ready cur k arcs) (top_is cur top e).1 (ready arcs l (top_is cur top e).0)

    module _ (arcs' : Arcs) (out : List ℕ) (v : Given cur top arcs arcs' out) where
      -- after it, the loop's invariant holds
      pub star_begin : StarInv cur goal pre arcs' (pre ++ codes out) 0
      star_begin = begun arcs l (top_is cur top e).0 arcs' out (subst (λ (k : ℕ). Given cur k arcs arcs' out) (sym (top_is cur top e).1) v)

      -- its swaps are few
      pub first_few : length out ≤ 30
      first_few =
          let i = star_begin in
          omega (arith, whole_fits (pre ++ codes out) (circuits (at goal) (at cur) i.more 0 i.rest) i.text, length-append pre (codes out), length-map out code)

  module _ (arcs : Arcs) (swaps : List ℕ) (key : ℕ) (inv : StarInv cur goal pre arcs swaps key) (low : key < 64) where
    pub key_ready : Ready cur key arcs
    key_ready =
        record {
          need = at goal;
          slots = inv.rest;
          held = inv.held;
          few = inv.few;
          short = p.short;
          start_key = low;
          keys = p.cur_keys;
        }

    module _ (arcs' : Arcs) (out : List ℕ) (v : Given cur key arcs arcs' out) where
      abbrev t : Trail
      t = trail (at goal) (at cur) key inv.rest

      d : Done (at goal) (at cur) key key [] [] inv.rest t
      d = trail_done (at goal) (at cur) key key inv.rest (λ x. omega (arith, inv.bal x))

      few' : length t.left ≤ 20
      unfolding cnt_by
      few' = omega (arith, d.total flat 0, cnt_by_flat t.out, cnt_by_flat t.left, cnt_by_flat inv.rest, inv.few)

      -- what this key writes, and what is to come
      open_text : (m : ℕ) → key + m ≡ 64 → swaps ++ codes (circuits (at goal) (at cur) m key inv.rest) ≡ pre ++ codes (star_swaps cur goal) →
          (m' : ℕ) × (suc key + m' ≡ 64) × (swaps ++ codes (entered out ++ circuits (at goal) (at cur) m' (suc key) t.left) ≡ pre ++ codes (star_swaps cur goal))
      unfolding circuits
      open_text zero e x = absurd (omega arith)
      open_text (suc m) e x = (m, omega arith, rw (v.gave (at goal) inv.rest inv.held inv.few).0 x)

      next : (swaps' : List ℕ) → swaps' ≡ swaps ++ codes (entered out) → StarInv cur goal pre arcs' swaps' (key + 1)
      next swaps' e =
          let o = open_text inv.more inv.keys inv.text in
          let tail : List ℕ = circuits (at goal) (at cur) o.0 (suc key) t.left in
          rw (add-one key)
          (record {
            rest = t.left;
            more = o.0;
            held = (v.gave (at goal) inv.rest inv.held inv.few).1;
            few = few';
            bal = d.bal;
            keys = o.1;
            text =
                ap (λ (l : List ℕ). l ++ codes tail) e
                ∙ append_assoc swaps (codes (entered out)) (codes tail)
                ∙ ap (λ (l : List ℕ). swaps ++ l) (sym (map-append code (entered out) tail))
                ∙ o.2;
          })

      -- the key has no circuit
      pub none_out : slice_get out (length out - 1) ≡ None → StarInv cur goal pre arcs' swaps (key + 1)
      none_out e = next swaps (sym (append-nil swaps) ∙ ap (λ (l : List ℕ). swaps ++ codes (entered l)) (sym (empty_is out e)))

      -- it has one, entered by x
      pub room : (x : ℕ) → slice_get out (length out - 1) ≡ Some x → length swaps + 1 + length out ≤ length pre + 30
      room x e =
          let o = open_text inv.more inv.keys inv.text in
          let tail : List ℕ = circuits (at goal) (at cur) o.0 (suc key) t.left in
          omega (
            arith,
            whole_fits swaps (entered out ++ tail) o.2,
            length-append (entered out) tail,
            ap length (entered_is out x e),
          )

      pub one_out : (x : ℕ) → slice_get out (length out - 1) ≡ Some x → StarInv cur goal pre arcs' ((swaps ++ code x ∷ []) ++ codes out) (key + 1)
      one_out x e = next ((swaps ++ code x ∷ []) ++ codes out) (append_assoc swaps (code x ∷ []) (codes out) ∙ ap (λ (l : List ℕ). swaps ++ codes l) (sym (entered_is out x e)))

  -- all keys are done
  pub star_end : (arcs : Arcs) (swaps : List ℕ) (key : ℕ) → StarInv cur goal pre arcs swaps key → 64 ≤ key → swaps ≡ pre ++ codes (star_swaps cur goal)
  star_end arcs swaps key inv h = go inv.more (omega (arith, inv.keys)) inv.text
    where
      go : (m : ℕ) → m ≡ 0 → swaps ++ codes (circuits (at goal) (at cur) m key inv.rest) ≡ pre ++ codes (star_swaps cur goal) → swaps ≡ pre ++ codes (star_swaps cur goal)
      go m e x = sym (append-nil swaps) ∙ (unfold circuits in (rw e at x))

-- windows without keys want no swap
pub star_empty : (cur goal pre : List ℕ) → slice_get cur 0 ≡ None → pre ≡ pre ++ codes (star_swaps cur goal)
unfolding star_swaps
star_empty [] goal pre e = sym (append-nil pre)
star_empty (x ∷ cur) goal pre e = absurd cc

-- star-swap's list stands from the place start on, and the other places are as they were
pub record Appended (cur goal steps : List ℕ) (start : ℕ) (steps' : List ℕ) (r : ℕ) : Type 0 where
  pub few : r ≤ start + 30
  pub number : r ≡ start + length (star_swaps cur goal)
  pub text : take r steps' ≡ take start steps ++ codes (star_swaps cur goal)
  pub rest : drop r steps' ≡ drop r steps

-- the swaps so far over the places from the start on, and the circuits of the keys to come
pub record Writing (cur goal steps : List ℕ) (start : ℕ) (arcs : Arcs) (steps' : List ℕ) (r key : ℕ) : Type 0 where
  pub swaps : List ℕ
  pub inv : StarInv cur goal [] arcs swaps key
  pub wrote : Wrote steps start swaps steps' r

module _ (cur goal : List ℕ) (p : Pair cur goal) (steps : List ℕ) (start : ℕ) (fit : start + 30 ≤ length steps) where
  -- all is written
  pub whole : (swaps steps' : List ℕ) (r : ℕ) → Wrote steps start swaps steps' r → swaps ≡ codes (star_swaps cur goal) → Appended cur goal steps start steps' r
  whole swaps steps' r w e =
      let n : length swaps ≡ length (star_swaps cur goal) = ap length e ∙ length-map (star_swaps cur goal) code in
      record {
        few = omega (arith, w.number, n, star_few cur goal p);
        number = omega (arith, w.number, n);
        text = w.text ∙ ap (λ (l : List ℕ). take start steps ++ l) e;
        rest = w.rest;
      }

  pub whole_end : (arcs : Arcs) (steps' : List ℕ) (r key : ℕ) → Writing cur goal steps start arcs steps' r key → 64 ≤ key → Appended cur goal steps start steps' r
  whole_end arcs steps' r key v h = whole v.swaps steps' r v.wrote (star_end cur goal [] p arcs v.swaps key v.inv h)

  module _ (arcs : Arcs) (steps' : List ℕ) (r key : ℕ) (v : Writing cur goal steps start arcs steps' r key) (low : key < 64) (arcs' : Arcs) (out : List ℕ) (gave : Given cur key arcs arcs' out) where
    -- the key has no circuit
    pub write_none : slice_get out (length out - 1) ≡ None → Writing cur goal steps start arcs' steps' r (key + 1)
    write_none e = record { swaps = v.swaps; inv = none_out cur goal [] p arcs v.swaps key v.inv low arcs' out gave e; wrote = v.wrote }

    -- it has one, entered by x, and there is room for it
    module _ (x : ℕ) (e : slice_get out (length out - 1) ≡ Some x) where
      pub write_room : r + 1 + length out ≤ length steps'
      write_room = omega (arith, fit, v.wrote.number, v.wrote.len, room cur goal [] p arcs v.swaps key v.inv low arcs' out gave x e)

      pub write_one : (steps'' : List ℕ) (t : ℕ) → Wrote (set steps' r (code x)) (r + 1) (codes out) steps'' t → Writing cur goal steps start arcs' steps'' t (key + 1)
      write_one steps'' t w =
          let enter = wrote_more steps start v.swaps steps' r (code x ∷ []) _ (r + 1) v.wrote (wrote_one steps' r (code x) (omega (arith, write_room))) in
          record {
            swaps = (v.swaps ++ code x ∷ []) ++ codes out;
            inv = one_out cur goal [] p arcs v.swaps key v.inv low arcs' out gave x e;
            wrote = wrote_more steps start (v.swaps ++ code x ∷ []) _ (r + 1) (codes out) steps'' t enter w;
          }

-- The lists of slots by key, as the table of arcs holds them: what `pick` does to them.
use Rattle.std.specs.Prelude.{◌≡◌, Bool, true, false, Option, Some, None, List, [], ◌∷◌, ℕ, ◌≤◌, ◌<◌, cond, eqb, length, get_or, set, replicate}
use Rattle.std.proofs.Math.Path.{refl, subst⁻¹}
use Rattle.std.proofs.Common.{sym, ap, ◌∙◌, arith, ne_eqb, get_or-set_same, get_or-set_other}
use Rattle.std.proofs.Math.Decide.{ℕ_discrete}
use Rattle.std.proofs.lemmas.List.{get_or_default}
use Rattle.star_swap.specs.Count.{Test, equal, unequal, test}
use Rattle.star_swap.specs.Star.{at, Pick, nothing, arc, pick_if, pick, trail}
use Rattle.star_swap.specs.declared.Arcs.{Arcs}

abbrev pub arcs_of : (head next : List ℕ) → Arcs
arcs_of head next = record { head = head; next = next }

-- no slot yet
abbrev pub no_arcs : Arcs
no_arcs = arcs_of (replicate 64 255) (replicate 21 255)

-- the slot that a byte of a table stands for: 255, which is no slot of a window, stands for none
unfoldable pub slot_of : ℕ → Option ℕ
slot_of i = cond (eqb i 255) None (Some i)

pub is_none : slot_of 255 ≡ None
unfolding slot_of
is_none = refl

pub is_slot : (i : ℕ) → (i ≡ 255 → ⊥) → slot_of i ≡ Some i
unfolding slot_of
is_slot i ne = rw (ne_eqb i 255 ne)

-- the byte at a place of a table: none stands behind its end
abbrev pub byte : List ℕ → ℕ → ℕ
byte l i = get_or l i 255

-- within the table it is the number read there
pub byte_at : (l : List ℕ) (i : ℕ) → i < length l → byte l i ≡ at l i
byte_at l i h = get_or_default l i 255 0 h

-- the slot at a place of a table, if one stands there
abbrev pub slot : List ℕ → ℕ → Option ℕ
slot l i = slot_of (byte l i)

-- a list of slots below n in a table, by `next` from h on
unfoldable pub Chain : ℕ → List ℕ → Option ℕ → List ℕ → Type 0
Chain n next h [] = h ≡ None
Chain n next h (i ∷ l) = (h ≡ Some i) × (i < n) × Chain n next (slot next i) l

abbrev pub need_if : Bool → ℕ → List ℕ → List ℕ
need_if true j l = j ∷ l
need_if false j l = l

-- the slots of the list that need the key k
unfoldable pub needing : (ℕ → ℕ) → ℕ → List ℕ → List ℕ
needing g k [] = []
needing g k (j ∷ R) = need_if (eqb (g j) k) j (needing g k R)

-- the table holds the slots of R by key
unfoldable pub Chained : ℕ → (ℕ → ℕ) → List ℕ → Arcs → Type 0
Chained n g R arcs = (k : ℕ) → k < 64 → Chain n arcs.next (slot arcs.head k) (needing g k R)

abbrev Needs : (ℕ → ℕ) → ℕ → List ℕ → Pick → Type 0
Needs g k R nothing = needing g k R ≡ []
Needs g k R (arc i R') = (needing g k R ≡ i ∷ needing g k R') × ((k' : ℕ) → (k' ≡ k → ⊥) → needing g k' R ≡ needing g k' R')

pub needs_skip : (g : ℕ → ℕ) (k j : ℕ) (R : List ℕ) → (g j ≡ k → ⊥) → needing g k (j ∷ R) ≡ needing g k R
unfolding needing
needs_skip g k j R ne = go (eqb (g j) k) (test (g j) k)
  where
    go : (t : Bool) → Test (g j) k t → need_if t j (needing g k R) ≡ needing g k R
    go true (equal e) = absurd (ne e)
    go false (unequal e) = refl

pub needs_take : (g : ℕ → ℕ) (k j : ℕ) (R : List ℕ) → g j ≡ k → needing g k (j ∷ R) ≡ j ∷ needing g k R
unfolding needing
needs_take g k j R h = go (eqb (g j) k) (test (g j) k)
  where
    go : (t : Bool) → Test (g j) k t → need_if t j (needing g k R) ≡ j ∷ needing g k R
    go true (equal e) = refl
    go false (unequal e) = absurd (e h)

needs_both : (g : ℕ → ℕ) (k j : ℕ) (R R' : List ℕ) → needing g k R ≡ needing g k R' → needing g k (j ∷ R) ≡ needing g k (j ∷ R')
unfolding needing
needs_both g k j R R' e = ap (need_if (eqb (g j) k) j) e

pick_needs : (g : ℕ → ℕ) (k : ℕ) (R : List ℕ) → Needs g k R (pick g k R)
unfolding pick
pick_needs g k [] = unfold needing in refl
pick_needs g k (j ∷ R) = go (eqb (g j) k) (test (g j) k) (pick g k R) (pick_needs g k R)
  where
    go : (t : Bool) → Test (g j) k t → (p : Pick) → Needs g k R p → Needs g k (j ∷ R) (pick_if t j R p)
    go true (equal e) p r = (needs_take g k j R e, λ k' ne. needs_skip g k' j R (λ q. ne (sym q ∙ e)))
    go false (unequal e) nothing r = needs_skip g k j R e ∙ r
    go false (unequal e) (arc i R') r = (
      needs_skip g k j R e ∙ r.0 ∙ ap (λ (l : List ℕ). i ∷ l) (sym (needs_skip g k j R' e)),
      λ k' ne. needs_both g k' j R R' (r.1 k' ne),
    )

-- what the table gives for a key, and what it holds then: what `pick` says of it
abbrev pub Taking : (n : ℕ) (g : ℕ → ℕ) → Pick → Option ℕ → (R : List ℕ) → Arcs → Type 0
Taking n g nothing r R arcs = (r ≡ None) × Chained n g R arcs
Taking n g (arc i R') r R arcs = (r ≡ Some i) × (i < n) × Chained n g R' arcs

pub record Took (k : ℕ) (arcs : Arcs) (r : Option ℕ) (arcs' : Arcs) : Type 0 where
  pub each : (n : ℕ) (g : ℕ → ℕ) (R : List ℕ) → Chained n g R arcs → Taking n g (pick g k R) r R arcs'

module _ (k : ℕ) (arcs : Arcs) (lt : k < 64) where
  -- no slot in front
  pub took_none : slot arcs.head k ≡ None → Took k arcs None arcs
  unfolding Chained Chain
  took_none e = record { each = λ n g R h. go n g R h (pick g k R) (pick_needs g k R) }
    where
      go : (n : ℕ) (g : ℕ → ℕ) (R : List ℕ) → Chained n g R arcs → (p : Pick) → Needs g k R p → Taking n g p None R arcs
      go n g R h nothing m = (refl, h)
      go n g R h (arc i R') m =
          let q : (slot arcs.head k ≡ Some i) × (i < n) × Chain n arcs.next (slot arcs.next i) (needing g k R') = rw m.0 at (h k lt) in
          let z : None ≡ Some i = sym e ∙ q.0 in
          absurd cc

  -- the slot in front goes
  pub took_some : (i : ℕ) → length arcs.head ≡ 64 → slot arcs.head k ≡ Some i → Took k arcs (Some i) (arcs_of (set arcs.head k (byte arcs.next i)) arcs.next)
  unfolding Chained Chain
  took_some i len e = record { each = λ n g R h. go n g R h (pick g k R) (pick_needs g k R) }
    where
      arcs' : Arcs
      arcs' = arcs_of (set arcs.head k (byte arcs.next i)) arcs.next

      go : (n : ℕ) (g : ℕ → ℕ) (R : List ℕ) → Chained n g R arcs → (p : Pick) → Needs g k R p → Taking n g p (Some i) R arcs'
      go n g R h nothing m =
          let z : slot arcs.head k ≡ None = (rw m at (h k lt)) in
          let y : None ≡ Some i = sym z ∙ e in
          absurd cc
      go n g R h (arc j R') m =
          let q : (slot arcs.head k ≡ Some j) × (j < n) × Chain n arcs.next (slot arcs.next j) (needing g k R') = rw m.0 at (h k lt) in
          let y : Some i ≡ Some j = sym e ∙ q.0 in
          let x : i ≡ j = cc in
          let each : (k' : ℕ) → k' < 64 → Chain n arcs.next (slot arcs'.head k') (needing g k' R') = λ k' lt'.
          elim (ℕ_discrete k' k) [
            | yes s ↦
                subst⁻¹
                (λ (z : ℕ). Chain n arcs.next (slot arcs'.head z) (needing g z R'))
                s
                (rw (get_or-set_same arcs.head k (byte arcs.next i) 255 (omega arith), x) q.2)
            | no s ↦ rw (get_or-set_other arcs.head k k' (byte arcs.next i) 255 s, ← m.1 k' s) (h k' lt')
          ] in
          (y, q.1, each)

-- slots below 21 stand in the table
pub record Held (arcs : Arcs) : Type 0 where
  pub bound : ℕ
  pub short : bound ≤ 21
  pub need : ℕ → ℕ
  pub slots : List ℕ
  pub held : Chained bound need slots arcs

pub held_slot : (k i : ℕ) (arcs : Arcs) → Held arcs → k < 64 → slot arcs.head k ≡ Some i → i < 21
unfolding Chained Chain
held_slot k i arcs h lt e = go (needing h.need k h.slots) (h.held k lt)
  where
    go : (l : List ℕ) → Chain h.bound arcs.next (slot arcs.head k) l → i < 21
    go [] c = let z : Some i ≡ None = sym e ∙ c in absurd cc
    go (j ∷ l) c = let y : Some i ≡ Some j = sym e ∙ c.0 in let x : i ≡ j = cc in omega (arith, c.1, h.short)

-- what the trail takes: the table holds the slots of a list R, at most 20, each below the window's length
pub record Ready (cur : List ℕ) (start : ℕ) (arcs : Arcs) : Type 0 where
  pub need : ℕ → ℕ
  pub slots : List ℕ
  pub held : Chained (length cur) need slots arcs
  pub few : length slots ≤ 20
  pub short : length cur ≤ 21
  pub start_key : start < 64
  pub keys : (i : ℕ) → i < length cur → at cur i < 64

-- what it gives: its slots, in the order of the swaps
abbrev pub Gave : (cur : List ℕ) (start : ℕ) (arcs arcs' : Arcs) (out : List ℕ) → Type 0
Gave cur start arcs arcs' out =
    (g : ℕ → ℕ) (R : List ℕ) →
    Chained (length cur) g R arcs →
    length R ≤ 20 →
    (out ≡ (trail g (at cur) start R).out) × Chained (length cur) g (trail g (at cur) start R).left arcs'

pub record Given (cur : List ℕ) (start : ℕ) (arcs arcs' : Arcs) (out : List ℕ) : Type 0 where
  pub gave : Gave cur start arcs arcs' out

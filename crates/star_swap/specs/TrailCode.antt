-- The invariant of the trail's loop, over the table of arcs, the stack and the output, and its steps.
use Rattle.std.specs.Prelude.{◌≡◌, refl, Option, Some, None, List, [], ◌∷◌, ◌++◌, reverse, ℕ, zero, suc, ◌+◌, ◌-◌, ◌*◌, ◌≤◌, ◌<◌, length, set, drop}
use Rattle.std.proofs.Common.{sym, ap, subst, ◌∙◌, arith, length-append, length-drop, length-set, get_or-set_same}
use Rattle.std.proofs.Math.Decide.{dec_lt}
use Rattle.std.proofs.Math.Seq.{drop-cons, get_or-append_seam}
use Rattle.std.proofs.lemmas.List.{reverse-append, length-reverse, get_or-reverse, get_or_append_left, drop-set-lt}
use Rattle.std.proofs.lemmas.Option.{slice_get_within, get_or_from_slice_get}
use Rattle.std.specs.List.{slice_get}
use native.Mathlib.Numerals.{unary_clauses}
use Rattle.star_swap.specs.Star.{at, Pick, nothing, arc, pick, key_of, Trail, trail_step, trail_loop, trail}
use Rattle.star_swap.specs.Trail.{Picked, pick_is}
use Rattle.star_swap.specs.Chain.{Chained, Taking, Took, Held, Ready, Gave}
use Rattle.star_swap.specs.declared.Arcs.{Arcs}

reverse_push : (l : List ℕ) (x : ℕ) → reverse (l ++ x ∷ []) ≡ x ∷ reverse l
reverse_push l x = reverse-append l (x ∷ [])

-- a list without a last number
last_some : (l : List ℕ) (y : ℕ) → slice_get (y ∷ l) (length l) ≡ None → ⊥
last_some [] y e = cc
last_some (z ∷ l) y e = last_some l z e

pub empty_is : (l : List ℕ) → slice_get l (length l - 1) ≡ None → l ≡ []
empty_is [] e = refl
empty_is (y ∷ l) e = absurd (last_some l y (simp unary_clauses at e))

-- a store in front of the places that are filled
pub store_front : (l : List ℕ) (n i : ℕ) → 0 < n → n ≤ length l → drop (n - 1) (set l (n - 1) i) ≡ i ∷ drop n l
store_front l zero i h fit = absurd (omega arith)
store_front l (suc n) i h fit =
    let e : suc n - 1 ≡ n = omega arith in
    rw e (drop-cons (set l n i) n 0 (omega (arith, length-set l n i)) ∙ rw (get_or-set_same l n i 0 (omega arith), drop-set-lt (suc n) l n i (omega arith)))

-- the key of the stack's top
key_top : (c : ℕ → ℕ) (start : ℕ) (l : List ℕ) (x : ℕ) → slice_get l (length l - 1) ≡ Some x → key_of c start (reverse l) ≡ c x
key_top c start l x s =
    let n : length l - 1 < length l = slice_get_within l (length l - 1) x s in
    head (reverse l) (omega (arith, length-reverse l)) ∙ ap c (get_or-reverse l 0 0 (omega arith) ∙ get_or_from_slice_get l (length l - 1 - 0) x 0 (ap (slice_get l) {x = length l - 1 - 0} {y = length l - 1} (omega arith) ∙ s))
  where
    head : (w : List ℕ) → 0 < length w → key_of c start w ≡ c (at w 0)
    head [] h = absurd (omega arith)
    head (y ∷ w) h = refl

module _ (cur : List ℕ) (start : ℕ) where
  -- the loop's state against the definition's, from the slots R₀ on
  pub record State (g : ℕ → ℕ) (R₀ : List ℕ) (arcs : Arcs) (out stack : List ℕ) (key : ℕ) : Type 0 where
    pub rest : List ℕ
    pub fuel : ℕ
    pub held : Chained (length cur) g rest arcs
    pub enough : 2 * length rest + length stack < fuel
    pub sum : length stack + length out + length rest ≡ length R₀
    pub goes : trail_loop g (at cur) start fuel (reverse stack) out rest ≡ trail g (at cur) start R₀
    pub at_key : key ≡ key_of (at cur) start (reverse stack)

  pub record TrailInv (arcs₀ arcs : Arcs) (out stack : List ℕ) (key : ℕ) : Type 0 where
    pub room : length stack + length out ≤ 20
    pub key_low : key < 64
    pub slots_low : (i : ℕ) → i < length stack → at stack i < length cur
    pub states : (g : ℕ → ℕ) (R : List ℕ) → Chained (length cur) g R arcs₀ → length R ≤ 20 → State g R arcs out stack key

  -- one turn of the definition, where the fuel is enough
  opened : (g : ℕ → ℕ) (f k : ℕ) (st out R : List ℕ) (t : Trail) → k < f → trail_loop g (at cur) start f st out R ≡ t →
      (m : ℕ) × (k ≤ m) × (trail_step st out R (pick g (key_of (at cur) start st) R) (trail_loop g (at cur) start m) ≡ t)
  unfolding trail_loop
  opened g zero k st out R t lt e = absurd (omega arith)
  opened g (suc m) k st out R t lt e = (m, omega arith, e)

  -- the loop starts with nothing taken
  pub begin : (arcs : Arcs) → start < 64 → TrailInv arcs arcs [] [] start
  unfolding trail
  begin arcs low =
      record {
        room = omega arith;
        key_low = low;
        slots_low = λ i h. absurd (omega arith);
        states = λ g R h few. record { rest = R; fuel = suc (2 * length R); held = h; enough = omega arith; sum = omega arith; goes = refl; at_key = refl };
      }

  -- the table holds slots below 21
  pub holds : (arcs₀ arcs : Arcs) (out stack : List ℕ) (key : ℕ) → TrailInv arcs₀ arcs out stack key → Ready cur start arcs₀ → Held arcs
  holds arcs₀ arcs out stack key inv a =
      let s = inv.states a.need a.slots a.held a.few in
      record { bound = length cur; short = a.short; need = a.need; slots = s.rest; held = s.held }

  module _ (arcs₀ arcs arcs' : Arcs) (out stack : List ℕ) (key : ℕ) (inv : TrailInv arcs₀ arcs out stack key) where
    -- a turn at a state: what `pick` gives there, and what is left to do
    record Turn (g : ℕ → ℕ) (R₀ : List ℕ) (r : Option ℕ) (rest : List ℕ) (m : ℕ) (p : Pick) : Type 0 where
      sum : length stack + length out + length rest ≡ length R₀
      fuel : 2 * length rest + length stack ≤ m
      took : Taking (length cur) g p r rest arcs'
      picks : Picked g key rest p
      goes : trail_step (reverse stack) out rest p (trail_loop g (at cur) start m) ≡ trail g (at cur) start R₀

    turn : (r : Option ℕ) → Took key arcs r arcs' → (g : ℕ → ℕ) (R₀ : List ℕ) → State g R₀ arcs out stack key → (rest : List ℕ) × (m : ℕ) × Turn g R₀ r rest m (pick g key rest)
    turn r t g R₀ s =
        let o = opened g s.fuel (2 * length s.rest + length stack) (reverse stack) out s.rest (trail g (at cur) start R₀) s.enough s.goes in (
          s.rest,
          o.0,
          record {
            sum = s.sum;
            fuel = o.1;
            took = t.each (length cur) g s.rest s.held;
            picks = pick_is g key s.rest;
            goes = rw s.at_key o.2;
          },
        )

    -- no slot left for the key
    module _ (t : Took key arcs None arcs') where
      -- and the stack is empty: the trail ends
      pub leave : stack ≡ [] → Gave cur start arcs₀ arcs' out
      leave e g R h few =
          let s = turn None t g R (inv.states g R h few) in
          go s.0 s.1 (pick g key s.0) s.2
        where
          go : (rest : List ℕ) (m : ℕ) (p : Pick) → Turn g R None rest m p →
              (out ≡ (trail g (at cur) start R).out) × Chained (length cur) g (trail g (at cur) start R).left arcs'
          go rest m nothing t =
              let q : ◌≡◌ {A = Trail} (record { out = out; left = rest }) (trail g (at cur) start R) = rw e at t.goes in
              (ap (λ (r : Trail). r.out) q, subst (λ (r : Trail). Chained (length cur) g r.left arcs') q t.took.1)
          go rest m (arc i R') t = let z : None ≡ Some i = t.took.0 in absurd cc

      -- else the stack's top goes out
      pop : (below : List ℕ) (i key' : ℕ) → stack ≡ below ++ i ∷ [] → key' < 64 → key' ≡ key_of (at cur) start (reverse below) → TrailInv arcs₀ arcs' (i ∷ out) below key'
      pop below i key' e low is_key =
          record {
            room = omega (arith, inv.room, ap length e, length-append below (i ∷ []));
            key_low = low;
            slots_low = λ j h. subst (λ (n : ℕ). n < length cur) (ap (λ (l : List ℕ). at l j) e ∙ get_or_append_left below (i ∷ []) 0 j h) (inv.slots_low j (omega (arith, ap length e, length-append below (i ∷ []))));
            states = λ g R h few. popped g R (inv.states g R h few);
          }
        where
          popped : (g : ℕ → ℕ) (R : List ℕ) → State g R arcs out stack key → State g R arcs' (i ∷ out) below key'
          popped g R st = let q = turn None t g R st in go q.0 q.1 (pick g key q.0) q.2
            where
              go : (rest : List ℕ) (m : ℕ) (p : Pick) → Turn g R None rest m p → State g R arcs' (i ∷ out) below key'
              go rest m nothing t =
                  let s : reverse stack ≡ i ∷ reverse below = ap reverse e ∙ reverse_push below i in
                  record {
                    rest = rest;
                    fuel = m;
                    held = t.took.1;
                    enough = omega (arith, t.fuel, ap length e, length-append below (i ∷ []));
                    sum = omega (arith, t.sum, ap length e, length-append below (i ∷ []));
                    goes = rw s at t.goes;
                    at_key = is_key;
                  }
              go rest m (arc i R') t = let z : None ≡ Some i = t.took.0 in absurd cc

    -- the slot below the stack's top
    module _ (below : List ℕ) (i : ℕ) (e : stack ≡ below ++ i ∷ []) where
      pub below_low : (x : ℕ) → slice_get below (length below - 1) ≡ Some x → x < length cur
      below_low x s =
          let l : length below - 1 < length below = slice_get_within below (length below - 1) x s in
          let v : at stack (length below - 1) ≡ x = ap (λ (w : List ℕ). at w (length below - 1)) e ∙ get_or_append_left below (i ∷ []) 0 (length below - 1) l ∙ get_or_from_slice_get below (length below - 1) x 0 s in
          subst (λ (n : ℕ). n < length cur) v (inv.slots_low (length below - 1) (omega (arith, ap length e, length-append below (i ∷ []))))

      -- there is a place for the stack's top
      pub place_left : (slots : List ℕ) (n : ℕ) → length slots ≡ 20 → out ≡ drop n slots → 0 < n
      place_left slots n l f = omega (arith, l, inv.room, ap length e, length-append below (i ∷ []), ap length f, length-drop n slots)

      module _ (t : Took key arcs None arcs') (a : Ready cur start arcs₀) where
        pub pop_on : (x : ℕ) → slice_get below (length below - 1) ≡ Some x → TrailInv arcs₀ arcs' (i ∷ out) below (at cur x)
        pop_on x s = pop t below i (at cur x) e (a.keys x (below_low x s)) (sym (key_top (at cur) start below x s))

        pub pop_last : slice_get below (length below - 1) ≡ None → TrailInv arcs₀ arcs' (i ∷ out) below start
        pop_last s = pop t below i start e a.start_key (ap (λ (l : List ℕ). key_of (at cur) start (reverse l)) (sym (empty_is below s)))

    -- a slot for the key: it goes onto the stack
    module _ (i : ℕ) (t : Took key arcs (Some i) arcs') where
      record Pushed (g : ℕ → ℕ) (R : List ℕ) : Type 0 where
        low : i < length cur
        room : length stack + length out + 1 ≤ length R
        state : State g R arcs' out (stack ++ i ∷ []) (at cur i)

      pushed : (g : ℕ → ℕ) (R : List ℕ) → State g R arcs out stack key → Pushed g R
      pushed g R st = let q = turn (Some i) t g R st in go q.0 q.1 (pick g key q.0) q.2
        where
          go : (rest : List ℕ) (m : ℕ) (p : Pick) → Turn g R (Some i) rest m p → Pushed g R
          go rest m nothing t = let z : Some i ≡ None = t.took.0 in absurd cc
          go rest m (arc j R') t =
              let y : Some i ≡ Some j = t.took.0 in
              let x : i ≡ j = cc in
              let s : reverse (stack ++ i ∷ []) ≡ j ∷ reverse stack = reverse_push stack i ∙ ap (λ (k : ℕ). k ∷ reverse stack) x in
              record {
                low = omega (arith, t.took.1);
                room = omega (arith, t.sum, t.picks.2);
                state =
                    record {
                      rest = R';
                      fuel = m;
                      held = t.took.2;
                      enough = omega (arith, t.fuel, t.picks.2, length-append stack (i ∷ []));
                      sum = omega (arith, t.sum, t.picks.2, length-append stack (i ∷ []));
                      goes = rw s t.goes;
                      at_key = rw s (ap (at cur) x);
                    };
              }

      -- from one list that the table holds at the start
      module _ (a : Ready cur start arcs₀) where
        one : Pushed a.need a.slots
        one = pushed a.need a.slots (inv.states a.need a.slots a.held a.few)

        pub arc_low : i < length cur
        arc_low = one.low

        pub arc_room : length stack + length out + 1 ≤ 20
        arc_room = omega (arith, one.room, a.few)

        pub push : TrailInv arcs₀ arcs' out (stack ++ i ∷ []) (at cur i)
        push =
            record {
              room = omega (arith, arc_room, length-append stack (i ∷ []));
              key_low = a.keys i arc_low;
              slots_low = λ j h.
                  elim (dec_lt j (length stack)) [
                    | yes q ↦ rw (get_or_append_left stack (i ∷ []) 0 j q) (inv.slots_low j q)
                    | no q ↦
                        let e : j ≡ length stack = omega (arith, length-append stack (i ∷ [])) in
                        rw (e, get_or-append_seam stack i [] 0) arc_low
                  ];
              states = λ g R h few. (pushed g R (inv.states g R h few)).state;
            }

-- Delete-tail's steps replay from the start to the goal, and star-swap never refuses it.
use Prim.Native.Nat.{ℕ, zero, suc, ◌+◌, ◌-◌, ◌*◌, ◌<◌, ◌≤◌}
use Rattle.std.specs.Prelude.{true, ◌≡◌, eqb}
use mathlib.Core.List.{List, [], ◌∷◌, ◌++◌, append_assoc, append-nil}
use Rattle.std.proofs.Math.Path.{refl, ap}
use Rattle.std.proofs.Common.{sym, subst, ◌∙◌, eqb-true, drop_at}
use native.Mathlib.Omega.{arith}
use Rattle.std.proofs.Math.Decide.{ℕ_discrete}
use lib.ListN.{length, set, drop, length-append, length-drop, get_or-eq_default}
use Rattle.std.proofs.lemmas.List.{set_at}
use Rattle.std.proofs.Math.Seq.{drop-nil}
use Rattle.costs.specs.declared.Step.{Step}
use Rattle.costs.specs.declared.Step.TheVariants.{Pop, Swap}
use Rattle.replay.specs.Machine.{Rules, after, ran_on, ends}
use Rattle.replay.specs.Laws.{and_left, and_right}
use Rattle.star_swap.specs.Count.{cnt, cnt_by, itself, cnt_by_append}
use Rattle.star_swap.specs.Star.{at, last_of}
use Rattle.star_swap.specs.Circuit.{last_split}
use Rattle.star_swap.specs.StarCode.{Pair}
use Rattle.star_swap.specs.Routes.{Routed}
use Rattle.builders.specs.Draft.{Draft, fresh, does}
use Rattle.star_swap.specs.Ran.{swap_allowed}
use Rattle.star_swap.specs.Routable.{small_of, routed_pair}
use Rattle.builders.specs.DraftLaws.{Reached, reached_fresh, reached_does, pop_allowed, reached_routed}
use Rattle.builders.specs.Tail.{bury, pops, dead, buried, uncovered, delete_tail, begins}

-- a window of kept keys, keys to delete, and kept keys that are buried
pub record Halves (kept : ℕ → ℕ) (ng ne nr : ℕ) (w : List ℕ) : Type 0 where
  pub g : List ℕ
  pub e : List ℕ
  pub r : List ℕ
  pub is : w ≡ g ++ (e ++ r)
  pub g_length : length g ≡ ng
  pub e_length : length e ≡ ne
  pub r_length : length r ≡ nr
  pub total : (x : ℕ) → cnt x g + cnt x r ≡ kept x

pub halves_length : (kept : ℕ → ℕ) (ng ne nr : ℕ) (w : List ℕ) → Halves kept ng ne nr w → length w ≡ ng + ne + nr
halves_length kept ng ne nr w h =
    omega (arith, ap length h.is, length-append h.g (h.e ++ h.r), length-append h.e h.r, h.g_length, h.e_length, h.r_length)

one : (x : ℕ) (t : List ℕ) (d : ℕ) → after Pop (after (Swap (suc d)) (x ∷ t)) ≡ set t d x
unfolding after
one x t d = refl

-- one key is buried
bury_list : (kept : ℕ → ℕ) (ng ne nr : ℕ) (g e r : List ℕ) → length g ≡ suc ng → length e ≡ suc ne → length r ≡ nr → ((x : ℕ) → cnt x g + cnt x r ≡ kept x) →
    Halves kept ng ne (suc nr) (after Pop (after (Swap (ng + ne + 1)) (g ++ (e ++ r))))
unfolding cnt_by
bury_list kept ng ne nr [] e r lg le lr t = absurd (omega arith)
bury_list kept ng ne nr (x ∷ g) [] r lg le lr t = absurd (omega arith)
bury_list kept ng ne nr (x ∷ g) (y ∷ e) r lg le lr t =
    let v : (s : List ℕ) × (y ∷ e ≡ s ++ (last_of (y ∷ e) ∷ [])) = last_split y e in
    let s : List ℕ = v.0 in
    let z : ℕ = last_of (y ∷ e) in
    let ls : length s ≡ ne = omega (arith, ap length v.1, length-append s (z ∷ [])) in
    let d : ng + ne + 1 ≡ suc (ng + ne) = omega arith in
    let lt : length (g ++ s) ≡ ng + ne = omega (arith, length-append g s) in
    let f : g ++ ((y ∷ e) ++ r) ≡ (g ++ s) ++ (z ∷ r) =
    ap (λ (l : List ℕ). g ++ (l ++ r)) v.1 ∙ ap (λ (l : List ℕ). g ++ l) (append_assoc s (z ∷ []) r) ∙ sym (append_assoc g s (z ∷ r)) in
    record {
      g = g;
      e = s;
      r = x ∷ r;
      is =
          ap (λ (k : ℕ). after Pop (after (Swap k) (x ∷ (g ++ ((y ∷ e) ++ r))))) d
          ∙ one x (g ++ ((y ∷ e) ++ r)) (ng + ne)
          ∙ ap (λ (l : List ℕ). set l (ng + ne) x) f
          ∙ set_at (g ++ s) z r x (ng + ne) lt
          ∙ append_assoc g s (x ∷ r);
      g_length = omega arith;
      e_length = ls;
      r_length = ap suc lr;
      total = λ k. omega (arith, t k);
    }

pub bury_step : (kept : ℕ → ℕ) (ng ne nr : ℕ) (w : List ℕ) → Halves kept (suc ng) (suc ne) nr w → Halves kept ng ne (suc nr) (after Pop (after (Swap (length w - 1 - nr)) w))
bury_step kept ng ne nr w h =
    let l : length w - 1 - nr ≡ ng + ne + 1 = omega (arith, halves_length kept (suc ng) (suc ne) nr w h) in
    subst (λ (d : ℕ). Halves kept ng ne (suc nr) (after Pop (after (Swap d) w))) (sym l)
    (subst (λ (u : List ℕ). Halves kept ng ne (suc nr) (after Pop (after (Swap (ng + ne + 1)) u))) (sym h.is)
    (bury_list kept ng ne nr h.g h.e h.r h.g_length h.e_length h.r_length h.total))

-- what burying comes to
pub record Goes (q : Rules) (start : List ℕ) (p : Draft) (more : ℕ) (r : Draft) : Type 0 where
  pub reached : Reached q start r
  pub steps : length r.steps ≡ length p.steps + more

pub does_length : (s : Step) (p : Draft) → length (does s p).steps ≡ length p.steps + 1
unfolding does
does_length s p = omega (arith, length-append p.steps (Rattle.costs.specs.Step.code_of s ∷ []))

swap_length' : (d : ℕ) (p : Draft) → length (does (Swap d) p).window ≡ length p.window
unfolding does after
swap_length' d p = simp lib.ListN.length-set

pop_length' : (p : Draft) → length (does Pop p).window ≡ length p.window - 1
unfolding does after
pop_length' p = length-drop 1 p.window

-- a swap of the top and a Pop
abbrev pub swap_pop : ℕ → Draft → Draft
swap_pop d p = does Pop (does (Swap d) p)

pub swap_pop_lem : (q : Rules) (start : List ℕ) (d : ℕ) (p : Draft) → Reached q start p → 0 < d → d < q.swap_max → d < length p.window → d < 256 → Goes q start p 2 (swap_pop d p)
swap_pop_lem q start d p r a b c f =
    let r₁ : Reached q start (does (Swap d) p) = reached_does q start (Swap d) p r f (swap_allowed q d (length p.window) a b c) in
    record {
      reached = reached_does q start Pop (does (Swap d) p) r₁ tt (pop_allowed q _ (omega (arith, swap_length' d p)));
      steps = omega (arith, does_length Pop (does (Swap d) p), does_length (Swap d) p);
    }

module _ (q : Rules) (start : List ℕ) (kept : ℕ → ℕ) where
  bury_once : (i ng ne : ℕ) (p : Draft) → Halves kept (suc ng) (suc ne) i p.window → suc ng + suc ne + i ≤ q.swap_max → suc ng + suc ne + i ≤ 256 → Reached q start p →
      Halves kept ng ne (suc i) (swap_pop (length p.window - 1 - i) p).window × Goes q start p 2 (swap_pop (length p.window - 1 - i) p)
  bury_once i ng ne p h f m r =
      let l : length p.window ≡ suc ng + suc ne + i = halves_length kept (suc ng) (suc ne) i p.window h in
      (unfold does in (bury_step kept ng ne i p.window h), swap_pop_lem q start _ p r (omega arith) (omega arith) (omega arith) (omega arith))

  pub bury_goes : (n i ng ne : ℕ) (p : Draft) → n ≤ ng → n ≤ ne → Halves kept ng ne i p.window → ng + ne + i ≤ q.swap_max → ng + ne + i ≤ 256 → Reached q start p →
      Halves kept (ng - n) (ne - n) (i + n) (bury n i p).window × Goes q start p (2 * n) (bury n i p)
  unfolding bury
  bury_goes zero i ng ne p a b h f m r =
      let z : i + 0 ≡ i = omega arith in
      let x : ng - 0 ≡ ng = omega arith in
      let y : ne - 0 ≡ ne = omega arith in
      (rw (z, x, y) h, record { reached = r; steps = omega arith })
  bury_goes (suc n) i zero ne p a b h f m r = absurd (omega arith)
  bury_goes (suc n) i (suc ng) zero p a b h f m r = absurd (omega arith)
  bury_goes (suc n) i (suc ng) (suc ne) p a b h f m r =
      let o = bury_once i ng ne p h f m r in
      onward (swap_pop (length p.window - 1 - i) p) o (bury_goes n (suc i) ng ne _ (omega arith) (omega arith) o.0 (omega arith) (omega arith) o.1.reached)
    where
      onward : (p₂ : Draft) → Halves kept ng ne (suc i) p₂.window × Goes q start p 2 p₂ → Halves kept (ng - n) (ne - n) (suc i + n) (bury n (suc i) p₂).window × Goes q start p₂ (2 * n) (bury n (suc i) p₂) →
          Halves kept (suc ng - suc n) (suc ne - suc n) (i + suc n) (bury n (suc i) p₂).window × Goes q start p (2 * suc n) (bury n (suc i) p₂)
      onward p₂ o t =
          let z : suc i + n ≡ i + suc n = omega arith in
          let x : suc ng - suc n ≡ ng - n = omega arith in
          let y : suc ne - suc n ≡ ne - n = omega arith in
          (rw (← z, x, y) t.0, record { reached = t.1.reached; steps = omega (arith, t.1.steps, o.1.steps) })

module _ (q : Rules) (start : List ℕ) where
  pub pops_goes : (n : ℕ) (p : Draft) → n ≤ length p.window → Reached q start p → ((pops n p).window ≡ drop n p.window) × Goes q start p n (pops n p)
  unfolding pops
  pops_goes zero p h r = (refl, record { reached = r; steps = omega arith })
  pops_goes (suc n) p h r =
      let r₁ : Reached q start (does Pop p) = reached_does q start Pop p r tt (pop_allowed q _ (omega arith)) in
      let t = pops_goes n (does Pop p) (omega (arith, pop_length' p)) r₁ in
      (t.0 ∙ unfold does after in (drops n p.window), record { reached = t.1.reached; steps = omega (arith, t.1.steps, does_length Pop p) })
    where
      drops : (n : ℕ) (w : List ℕ) → drop n (drop 1 w) ≡ drop (suc n) w
      drops n [] = drop-nil n
      drops n (x ∷ w) = refl

-- what an accepted question says of start and goal
pub begins_is : (goal start : List ℕ) → begins goal start ≡ true → start ≡ goal ++ drop (length goal) start
unfolding begins
begins_is [] start h = refl
begins_is (x ∷ goal) [] h = let z : ◌≡◌ {A = ℕ} 0 1 = cc in absurd (omega arith)
begins_is (x ∷ goal) (y ∷ start) h =
    let e : x ≡ y = eqb-true x y (and_left (eqb x y) (begins goal start) h) in
    let f = begins_is goal start (and_right (eqb x y) (begins goal start) h) in
    rw e (ap (λ (l : List ℕ). y ∷ l) f)

pub record IsTail (swap_max : ℕ) (start goal : List ℕ) : Type 0 where
  pub parts : start ≡ goal ++ drop (length goal) start
  pub shorter : length goal < length start
  pub within : length start ≤ swap_max
  pub short : length start ≤ 21
  pub keys : (i : ℕ) → i < length goal → at goal i < 64

-- what stands before star-swap
pub record Uncovered (q : Rules) (start goal : List ℕ) (p : Draft) : Type 0 where
  pub reached : Reached q start p
  pub few : length p.steps ≤ 42
  pub routed : Routed q.swap_max p.window goal

cnt_nil : (x : ℕ) (l : List ℕ) → length l ≡ 0 → cnt x l ≡ 0
unfolding cnt_by
cnt_nil x [] h = refl
cnt_nil x (y ∷ l) h = absurd (omega arith)

empty : (l : List ℕ) → length l ≡ 0 → l ≡ []
empty [] h = refl
empty (y ∷ l) h = absurd (omega arith)

-- past the end of both windows
pub past : (cur goal : List ℕ) (j : ℕ) → length cur ≡ length goal → length goal ≤ j → at cur j ≡ at goal j
past cur goal j e h = get_or-eq_default cur 0 (omega arith) ∙ sym (get_or-eq_default goal 0 h)

-- the keys to delete are popped
last_pops : (kept : ℕ → ℕ) (ng ne nr : ℕ) (w : List ℕ) → Halves kept ng ne nr w → (ng ≡ 0 → ⊥) → ne ≡ 0 → (length (drop ne w) ≡ ng + nr) × ((x : ℕ) → cnt x (drop ne w) ≡ kept x)
last_pops kept ng ne nr w h a b =
    let f : drop ne w ≡ h.g ++ h.r = rw b (h.is ∙ ap (λ (l : List ℕ). h.g ++ (l ++ h.r)) (empty h.e (omega (arith, h.e_length)))) in
    (ap length f ∙ omega (arith, length-append h.g h.r, h.g_length, h.r_length), λ x. ap (cnt x) f ∙ cnt_by_append itself x h.g h.r ∙ h.total x)

all_buried : (kept : ℕ → ℕ) (ng ne nr : ℕ) (w : List ℕ) → Halves kept ng ne nr w → ng ≡ 0 → (length (drop ne w) ≡ ng + nr) × ((x : ℕ) → cnt x (drop ne w) ≡ kept x)
all_buried kept ng ne nr w h a =
    let f : drop ne w ≡ h.r = ap (drop ne) (h.is ∙ ap (λ (l : List ℕ). l ++ (h.e ++ h.r)) (empty h.g (omega (arith, h.g_length)))) ∙ drop_at h.e h.r ne h.e_length in
    (ap length f ∙ omega (arith, h.r_length), λ x. ap (cnt x) f ∙ omega (arith, h.total x, cnt_nil x h.g (omega (arith, h.g_length))))

module _ (q : Rules) (start goal : List ℕ) (t : IsTail q.swap_max start goal) where
  first : Halves (λ x. cnt x goal) (length goal) (dead start goal) 0 start
  unfolding cnt_by
  first =
      record {
        g = goal;
        e = drop (length goal) start;
        r = [];
        is = t.parts ∙ ap (λ (l : List ℕ). goal ++ l) (sym (append-nil (drop (length goal) start)));
        g_length = refl;
        e_length = length-drop (length goal) start;
        r_length = refl;
        total = λ x. omega arith;
      }

  pub uncovered_is : Uncovered q start goal (uncovered start goal)
  unfolding uncovered
  uncovered_is =
      let k : ℕ = length goal in
      let m : ℕ = dead start goal in
      let b : ℕ = buried start goal in
      let p : Draft = bury b 0 (fresh start) in
      let v = bury_goes q start (λ x. cnt x goal) b 0 k m (fresh start) (omega arith) (omega arith) first (omega (arith, t.within, t.shorter)) (omega (arith, t.short, t.shorter)) (reached_fresh q start) in
      let h : Halves (λ x. cnt x goal) (k - b) (m - b) (0 + b) p.window = v.0 in
      let u = pops_goes q start (m - b) p (omega (arith, halves_length _ _ _ _ _ h)) v.1.reached in
      let w : (length (drop (m - b) p.window) ≡ (k - b) + (0 + b)) × ((x : ℕ) → cnt x (drop (m - b) p.window) ≡ cnt x goal) =
      elim (ℕ_discrete (k - b) 0) [
        | yes z ↦ all_buried _ (k - b) (m - b) (0 + b) _ h z
        | no z ↦ last_pops _ (k - b) (m - b) (0 + b) _ h z (omega arith)
      ] in
      let l : length (pops (m - b) p).window ≡ length goal = ap length u.0 ∙ w.0 ∙ omega arith in
      record {
        reached = u.1.reached;
        few = omega (arith, u.1.steps, v.1.steps, t.short, t.shorter);
        routed =
            record {
              same_length = l;
              same_keys = λ x. ap (cnt x) u.0 ∙ w.1 x;
              placed = λ j a c. past (pops (m - b) p).window goal j l (omega (arith, t.within, t.shorter));
            };
      }

  -- the steps lead from the start to the goal
  pub delete_tail_replays : ran_on q 0 (delete_tail start goal) start ≡ ends goal
  unfolding delete_tail
  delete_tail_replays =
      let u = uncovered_is in
      reached_routed q start goal (uncovered start goal) (omega (arith, t.short, t.shorter)) t.keys u.routed u.reached

  -- star-swap can be called on what is left
  pub uncovered_pair : Pair (uncovered start goal).window goal
  uncovered_pair =
      let h = uncovered_is.routed in
      let k = small_of goal t.keys in
      routed_pair q.swap_max (uncovered start goal).window goal (omega (arith, h.same_length, t.short, t.shorter)) (λ x p. k x (omega (arith, h.same_keys x))) k h

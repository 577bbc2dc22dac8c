-- Items beneath the window (request U3): a stack ends at 1,024 items (Yellow Paper), and the window is the top of one.
use Rattle.std.specs.Prelude.{ℕ, ◌+◌, ◌-◌, ◌<◌, ◌≤◌, min, Bool, true, false, ◌&&◌, ◌≡◌, refl, ltb}
use Rattle.std.proofs.Common.{ap, sym, ◌∙◌, arith, ltb-true, ltb-false, lt-ltb, le-ltb}
use Rattle.costs.specs.declared.Step.{Step}
use Rattle.costs.specs.declared.Step.TheVariants.{Pop, Dup, Swap, PushImm, LoadVal}
use Rattle.replay.specs.Machine.{Rules, plain_rules, above, room, immediate, value, allows}

-- the greatest length of a window above so many items: what they leave of 1,024, and no more than max_len
unfoldable pub window_above : (max_len beneath : ℕ) → ℕ
window_above max_len beneath = min max_len (1024 - beneath)

-- the rules that a question is run with: its window is narrowed once, and nothing below it counts any more
abbrev pub narrowed : Rules → Rules
narrowed q = plain_rules q.dup_max q.swap_max (window_above q.max_len q.beneath) q.kinds

-- row 12: so many items and a window of n keys above them are over 1,024
unfoldable pub too_tall : (beneath n : ℕ) → Bool
too_tall beneath n = ltb 1024 (beneath + n)

-- what the items beneath make of a question whose window has n keys: the rules that it is run with, and whether the stack is too tall
pub record Footing : Type 0 where
  pub runs : Rules
  pub over : Bool

-- request U3: the rules are narrowed, and row 12 looks at the whole stack
abbrev pub footing : Rules → ℕ → Footing
footing q n = record { runs = narrowed q; over = too_tall q.beneath n }

-- document 01 knew the window alone: the rules are run as they are given, and there is no row 12
abbrev pub alone : Rules → Footing
alone q = record { runs = q; over = false }

-- ---- the request's sentence

-- a window of n keys may grow under the narrowed rules exactly if n is below max_len and beneath plus n is below 1,024, for any beneath
pub may_grow : (q : Rules) (n : ℕ) → room (narrowed q).max_len n ≡ (room q.max_len n && ltb (q.beneath + n) 1024)
unfolding room window_above
may_grow q n = go (ltb n q.max_len) refl (ltb (q.beneath + n) 1024) refl
  where
    go : (a : Bool) → ltb n q.max_len ≡ a → (b : Bool) → ltb (q.beneath + n) 1024 ≡ b → ltb n (min q.max_len (1024 - q.beneath)) ≡ (a && b)
    go true e true f = lt-ltb n (min q.max_len (1024 - q.beneath)) (omega (arith, ltb-true n q.max_len e, ltb-true (q.beneath + n) 1024 f))
    go true e false f = le-ltb n (min q.max_len (1024 - q.beneath)) (omega (arith, ltb-false (q.beneath + n) 1024 f))
    go false e b f = le-ltb n (min q.max_len (1024 - q.beneath)) (omega (arith, ltb-false n q.max_len e))

-- what a step asks of the whole stack, the window's n keys and what lies beneath: Dup, PushImm and LoadVal need it below 1,024
abbrev pub stack_allows : ℕ → Step → ℕ → Bool
stack_allows beneath Pop n = true
stack_allows beneath (Dup p) n = ltb (beneath + n) 1024
stack_allows beneath (Swap d) n = true
stack_allows beneath (PushImm k) n = ltb (beneath + n) 1024
stack_allows beneath (LoadVal k) n = ltb (beneath + n) 1024

and_true : (a : Bool) → a ≡ (a && true)
and_true true = refl
and_true false = refl

and_inner : (a b c : Bool) → (a && (b && c)) ≡ ((a && b) && c)
and_inner true b c = refl
and_inner false b c = refl

-- a step is allowed under the narrowed rules exactly if document 01 allows it and the stack does
pub narrowed_allows : (q : Rules) (s : Step) (n : ℕ) → allows (narrowed q) s n ≡ (allows q s n && stack_allows q.beneath s n)
unfolding allows
narrowed_allows q Pop n = and_true (ltb 0 n)
narrowed_allows q (Dup p) n =
    ap (λ (b : Bool). ltb p q.dup_max && (ltb p n && b)) (may_grow q n)
    ∙ ap (λ (b : Bool). ltb p q.dup_max && b) (and_inner (ltb p n) (room q.max_len n) (ltb (q.beneath + n) 1024))
    ∙ and_inner (ltb p q.dup_max) (ltb p n && room q.max_len n) (ltb (q.beneath + n) 1024)
narrowed_allows q (Swap d) n = and_true (ltb 0 d && (ltb d q.swap_max && ltb d n))
narrowed_allows q (PushImm k) n =
    ap (λ (b : Bool). immediate q.kinds k && b) (may_grow q n)
    ∙ and_inner (immediate q.kinds k) (room q.max_len n) (ltb (q.beneath + n) 1024)
narrowed_allows q (LoadVal k) n =
    ap (λ (b : Bool). value q.kinds k && b) (may_grow q n)
    ∙ and_inner (value q.kinds k) (room q.max_len n) (ltb (q.beneath + n) 1024)

-- ---- laws

-- the narrowed window is no longer
pub narrowed_most : (q : Rules) → (narrowed q).max_len ≤ q.max_len
unfolding window_above
narrowed_most q = omega arith

-- no more than 1,024 items in all, as numbers
pub tall_sum : (beneath n : ℕ) → too_tall beneath n ≡ false → beneath + n ≤ 1024
unfolding too_tall
tall_sum beneath n h = ltb-false 1024 (beneath + n) h

pub sum_tall : (beneath n : ℕ) → beneath + n ≤ 1024 → too_tall beneath n ≡ false
unfolding too_tall
sum_tall beneath n h = le-ltb 1024 (beneath + n) h

-- more than 1,024 items beneath are too many under any window
pub beneath_over : (beneath n : ℕ) → 1024 < beneath → too_tall beneath n ≡ true
unfolding too_tall
beneath_over beneath n h = lt-ltb 1024 (beneath + n) (omega (arith, h))

-- and so is a window of more keys above anything
pub long_tall : (beneath n : ℕ) → 1024 < n → too_tall beneath n ≡ true
unfolding too_tall
long_tall beneath n h = lt-ltb 1024 (beneath + n) (omega (arith, h))

-- tested without a sum
pub tall_test : (beneath n : ℕ) → beneath ≤ 1024 → ltb (1024 - beneath) n ≡ too_tall beneath n
unfolding too_tall
tall_test beneath n h = go (ltb 1024 (beneath + n)) refl
  where
    go : (b : Bool) → ltb 1024 (beneath + n) ≡ b → ltb (1024 - beneath) n ≡ b
    go true e = lt-ltb (1024 - beneath) n (omega (arith, h, ltb-true 1024 (beneath + n) e))
    go false e = le-ltb (1024 - beneath) n (omega (arith, h, ltb-false 1024 (beneath + n) e))

-- a window fits the narrowed rules if it fits max_len and the stack is not too tall with it, and with at most 1,024 items beneath only then
pub narrowed_fits : (q : Rules) (n : ℕ) → n ≤ q.max_len → too_tall q.beneath n ≡ false → n ≤ (narrowed q).max_len
unfolding window_above
narrowed_fits q n f h = omega (arith, f, tall_sum q.beneath n h)

pub narrowed_stands : (q : Rules) (n : ℕ) → q.beneath ≤ 1024 → n ≤ (narrowed q).max_len → too_tall q.beneath n ≡ false
unfolding window_above
narrowed_stands q n b f = sum_tall q.beneath n (omega (arith, b, f))

-- ---- nothing beneath

-- with nothing beneath, rules with a max_len of at most 1,024 are their own narrowed ones
pub narrowed_none : (q : Rules) → q.beneath ≡ 0 → q.max_len ≤ 1024 → narrowed q ≡ q
unfolding window_above
narrowed_none q e f =
    let m : min q.max_len (1024 - q.beneath) ≡ q.max_len = omega (arith, e, f) in
    ap (λ (n : ℕ). plain_rules q.dup_max q.swap_max n q.kinds) m
    ∙ ap (λ (b : ℕ). above b q) (sym e)

-- and a window of at most 1,024 keys has the old footing
pub footing_none : (q : Rules) (n : ℕ) → q.beneath ≡ 0 → q.max_len ≤ 1024 → n ≤ 1024 → footing q n ≡ alone q
footing_none q n e f l =
    ap (λ (r : Rules). record { runs = r; over = too_tall q.beneath n }) (narrowed_none q e f)
    ∙ ap (λ (b : Bool). record { runs = q; over = b }) (sum_tall q.beneath n (omega (arith, e, l)))

-- Stepping back in two parts, through the last steps and then through the others: so also a step at a time.
use Rattle.std.specs.Prelude.{ℕ, ◌+◌, false, List, [], ◌∷◌, ◌++◌, ◌≡◌, refl, length}
use Rattle.std.proofs.Common.{ap, ap₂, sym, subst, ◌∙◌, arith, length-append}
use Rattle.costs.specs.Table.{any_over, count_of}
use Rattle.replay.specs.Machine.{Rules, popped_on}
use Rattle.replay.specs.Beneath.{narrowed, narrowed_most}
use Rattle.replay.specs.Laws.{fewer_steps}
use Rattle.replay.specs.Steps.{ran_parts, ran_from}
use Rattle.replay.specs.Popped.{popped_append, kept}
use Rattle.rewind.specs.Led.{LedBack}
use Rattle.rewind.specs.Rewind.{given, rewound}
use Rattle.rewind.specs.Laws.{accepted, rewind_passes}
use Rattle.rewind.specs.Theorems.{led_fits, led_beneath, led_narrow}
use Rattle.rewind.specs.Back.{given_iff_led, zero_iff_some}
use Rattle.rewind.specs.declared.Rewound.{Rewound}

-- lists in two parts are equal part by part if the second parts are as long
same_parts : (a b c d : List ℕ) → a ++ b ≡ c ++ d → length b ≡ length d → (a ≡ c) × (b ≡ d)
same_parts [] b [] d e n = (refl, e)
same_parts [] b (y ∷ c) d e n = absurd (omega (arith, ap length e, length-append (y ∷ c) d))
same_parts (x ∷ a) b [] d e n = absurd (omega (arith, ap length e, length-append (x ∷ a) b))
same_parts (x ∷ a) b (y ∷ c) d e n =
    let h : x ≡ y = cc in
    let t : a ++ b ≡ c ++ d = cc in
    let p = same_parts a b c d t n in
    (ap₂ (λ (k : ℕ) (l : List ℕ). k ∷ l) h p.0, p.1)

-- a way that led here has a window between its parts, from which the last steps led here and to which the others led
pub led_parts : (q : Rules) (start xs ys ps gs end : List ℕ) → LedBack q start (xs ++ ys) (ps ++ gs) end → length gs ≡ count_of 0 ys →
    (mid : List ℕ) × LedBack q mid ys gs end × LedBack q start xs ps mid
led_parts q start xs ys ps gs end l n =
    let r = narrowed q in
    let t = ran_parts r 0 xs ys start end l.leads in
    let k = kept r xs 0 start t.0 (led_fits q start (xs ++ ys) (ps ++ gs) end l) l.keys t.1 in
    let h = ran_from r (0 + length xs) 0 ys t.0 end t.2 in
    let m = kept r ys 0 t.0 end k.end_fits k.end_low h in
    let p = same_parts (popped_on r xs start) (popped_on r ys t.0) ps gs (sym (popped_append r 0 xs ys start t.0 t.1) ∙ l.pops) (m.counted ∙ sym n) in (
      t.0,
      led_narrow q t.0 ys gs end (led_beneath q start (xs ++ ys) (ps ++ gs) end l) k.end_low k.end_fits h p.1,
      record { keys = l.keys; fits = l.fits; stands = l.stands; leads = t.1; pops = p.0 },
    )

popped_low_lem : (q : Rules) (start steps popped end : List ℕ) → LedBack q start steps popped end → any_over 63 popped ≡ false
popped_low_lem q start steps popped end l = subst (λ (x : List ℕ). any_over 63 x ≡ false) l.pops (kept (narrowed q) steps 0 start end (led_fits q start steps popped end l) l.keys l.leads).popped_low

-- as a caller gets it: a start that is given is also reached by stepping back through the last steps with the keys that they popped, and from
-- the window given there through the others
pub in_parts : (q : Rules) (end xs ys ps gs old start : List ℕ) → rewound q end (xs ++ ys) (ps ++ gs) old ≡ given start old → length gs ≡ count_of 0 ys →
    (mid : List ℕ) × (rewound q end ys gs old ≡ given mid old) × (rewound q mid xs ps old ≡ given start old)
in_parts q end xs ys ps gs old start e n =
    let h = ((zero_iff_some q end (xs ++ ys) (ps ++ gs) old).0 (ap (λ (x : Rewound × List ℕ). x.0.refusal) e)).0 in
    let a = accepted q end (length (xs ++ ys)) (ps ++ gs) (length old) h in
    let p = led_parts q start xs ys ps gs end ((given_iff_led q end (xs ++ ys) (ps ++ gs) old h start).1 e) n in
    let f = fewer_steps q (length ys) (length (xs ++ ys)) a.head (omega (arith, length-append xs ys)) in
    let g = fewer_steps q (length xs) (length (xs ++ ys)) a.head (omega (arith, length-append xs ys)) in
    let later = rewind_passes q end (length ys) gs (length old) f a.end_low (popped_low_lem q p.0 ys gs end p.1) a.stands (omega (arith, a.fits, narrowed_most q)) a.enough in
    let first = rewind_passes q p.0 (length xs) ps (length old) g p.1.keys (popped_low_lem q start xs ps p.0 p.2) p.1.stands p.1.fits a.enough in
    (p.0, (given_iff_led q end ys gs old later p.0).0 p.1, (given_iff_led q p.0 xs ps old first start).0 p.2)

-- The walk back finds the start exactly where there is one.
use Rattle.std.specs.Prelude.{ℕ, suc, ◌≤◌, false, ◌≡◌, refl, length, take}
use mathlib.Core.List.{List, [], ◌∷◌, ◌++◌, reverse, reverse_aux, reverse-append, reverse-reverse, append_assoc, append-nil}
use Rattle.std.specs.Prelude.{Option, None, Some}
use Rattle.std.proofs.Common.{ap, sym, subst, ◌∙◌, arith}
use Rattle.costs.specs.Step.{decoded}
use Rattle.costs.specs.Table.{any_over}
use Rattle.costs.specs.declared.Step.{Step}
use Rattle.costs.specs.declared.Step.TheVariants.{Pop, Dup, Swap, PushImm, LoadVal}
use Rattle.replay.specs.Beneath.{narrowed, narrowed_most, narrowed_fits, narrowed_stands, tall_sum}
use Rattle.replay.specs.Laws.{after_fits}
use Rattle.replay.specs.Steps.{Did, did, does, ran_none, ran_goes, ran_went, over_get, over_cons, over_drop}
use Rattle.replay.specs.Popped.{popped_none, popped_goes}
use Rattle.replay.specs.Machine.{Rules, step_on, ends, ran_on, gone_by, popped_on}
use Rattle.rewind.specs.Walk.{Place, place, back_over, back_on, then, walked_back, all_back, start_of, start_before}
use Rattle.rewind.specs.Led.{LedBack}
use Rattle.rewind.specs.Inverse.{StepBack, undone, redone, Low, low_back}

-- ---- inversions

-- a walk of two parts came by a place between
came : (next : Place → Option Place) (o : Option Place) (b : Place) → then next o ≡ Some b → (m : Place) × (o ≡ Some m) × (next m ≡ Some b)
came next None b h = let z : ◌≡◌ {A = ℕ} 0 1 = cc in absurd (omega arith)
came next (Some m) b h = (m, refl, h)

-- only a known step is walked back over
known : (q : Rules) (d : Option Step) (m b : Place) → back_on q d m ≡ Some b → (s : Step) × (d ≡ Some s) × (back_over q s m.window m.left ≡ Some b)
known q (Some s) m b h = (s, refl, h)
known q None m b h = let z : ◌≡◌ {A = ℕ} 0 1 = cc in absurd (omega arith)

-- ---- popped keys

one_back : (v : List ℕ) → reverse (take 1 v) ≡ take 1 v
one_back [] = refl
one_back (k ∷ v) = refl

gone_back : (d : Option Step) (v : List ℕ) → reverse (gone_by d v) ≡ gone_by d v
gone_back (Some Pop) v = one_back v
gone_back (Some (Dup p)) v = refl
gone_back (Some (Swap d)) v = refl
gone_back (Some (PushImm k)) v = refl
gone_back (Some (LoadVal k)) v = refl
gone_back None v = refl

-- the last popped first: those of the later steps, then that of the first
turned_back : (q : Rules) (c : ℕ) (cs v w rest : List ℕ) → step_on q (decoded c) v ≡ Some w →
    reverse (popped_on q (c ∷ cs) v) ++ rest ≡ reverse (popped_on q cs w) ++ (gone_by (decoded c) v ++ rest)
turned_back q c cs v w rest e =
    let g = gone_by (decoded c) v in
    ap (λ (l : List ℕ). reverse l ++ rest) (popped_goes q c cs v w e)
    ∙ ap (λ (l : List ℕ). l ++ rest) (reverse-append g (popped_on q cs w) ∙ ap (λ (l : List ℕ). reverse (popped_on q cs w) ++ l) (gone_back (decoded c) v))
    ∙ append_assoc (reverse (popped_on q cs w)) g rest

-- ---- back, then forth

-- what a walk from e back to v says
pub record Walked (q : Rules) (cs e left v rest : List ℕ) : Type 0 where
  pub fits : length v ≤ q.max_len
  pub leads : (i : ℕ) → ran_on q i cs v ≡ ends e
  pub gone : left ≡ reverse (popped_on q cs v) ++ rest

-- the step leads forth again
forth : (q : Rules) (d : Option Step) (s : Step) (w left v rest : List ℕ) → d ≡ Some s → StepBack q s w left v rest → step_on q d v ≡ Some w
forth q d s w left v rest e u = does q d v w s (record { code = e; allowed = u.allowed; leads = u.leads })

one_more : (q : Rules) (c : ℕ) (s : Step) (cs e left w mid v rest : List ℕ) → decoded c ≡ Some s → Walked q cs e left w mid → StepBack q s w mid v rest → Walked q (c ∷ cs) e left v rest
one_more q c s cs e left w mid v rest d k u =
    let f = forth q (decoded c) s w mid v rest d u in
    record {
      fits = u.fits;
      leads = λ i. ran_goes q i c cs v w f ∙ k.leads (suc i);
      gone = k.gone ∙ ap (λ (l : List ℕ). reverse (popped_on q cs w) ++ l) (u.gone ∙ ap (λ (x : Option Step). gone_by x v ++ rest) (sym d)) ∙ sym (turned_back q c cs v w rest f);
    }

pub walked : (q : Rules) (cs : List ℕ) (a b : Place) → length a.window ≤ q.max_len → walked_back q cs a ≡ Some b → Walked q cs a.window a.left b.window b.left
unfolding walked_back
walked q [] a b f h =
    let e : a ≡ b = cc in
    subst (λ (x : Place). Walked q [] a.window a.left x.window x.left) e (record { fits = f; leads = λ i. ran_none q i a.window; gone = ap (λ (l : List ℕ). reverse l ++ a.left) (sym (popped_none q a.window)) })
walked q (c ∷ cs) a b f h =
    let t = came (back_on q (decoded c)) (walked_back q cs a) b h in
    let k = walked q cs a t.0 f t.1 in
    let d = known q (decoded c) t.0 b t.2 in
    one_more q c d.0 cs a.window a.left t.0.window t.0.left b.window b.left d.1 k
    (undone q d.0 t.0.window t.0.left b k.fits d.2)

pub walked_low : (q : Rules) (cs : List ℕ) (a b : Place) → Low a.window a.left → walked_back q cs a ≡ Some b → Low b.window b.left
unfolding walked_back
walked_low q [] a b l h = let e : a ≡ b = cc in subst (λ (x : Place). Low x.window x.left) e l
walked_low q (c ∷ cs) a b l h =
    let t = came (back_on q (decoded c)) (walked_back q cs a) b h in
    let d = known q (decoded c) t.0 b t.2 in
    low_back q d.0 t.0.window t.0.left b (walked_low q cs a t.0 l t.1) d.2

-- ---- forth, then back

back : (q : Rules) (d : Option Step) (s : Step) (v w rest : List ℕ) → length v ≤ q.max_len → Did q d v w s → back_on q d (place w (gone_by d v ++ rest)) ≡ Some (place v rest)
back q d s v w rest f k = rw (k.code, ← k.leads) (redone q s v rest f k.allowed)

pub retraced : (q : Rules) (cs : List ℕ) (i : ℕ) (v e rest : List ℕ) → length v ≤ q.max_len → ran_on q i cs v ≡ ends e →
    walked_back q cs (place e (reverse (popped_on q cs v) ++ rest)) ≡ Some (place v rest)
unfolding walked_back
retraced q [] i v e rest f h =
    let n : ends v ≡ ends e = sym (ran_none q i v) ∙ h in
    let k : e ≡ v = cc in
    rw (popped_none q v) (ap (λ (w : List ℕ). Some (place w rest)) k)
retraced q (c ∷ cs) i v e rest f h =
    let t = ran_went q i c cs v e h in
    let w = t.0 in
    let k = did q (decoded c) v w t.1 in
    let n : length w ≤ q.max_len = subst (λ (x : List ℕ). length x ≤ q.max_len) k.1.leads (after_fits q k.0 v f k.1.allowed) in
    ap (λ (l : List ℕ). then (back_on q (decoded c)) (walked_back q cs (place e l))) (turned_back q c cs v w rest t.1)
    ∙ ap (then (back_on q (decoded c))) (retraced q cs (suc i) w e (gone_by (decoded c) v ++ rest) n t.2)
    ∙ back q (decoded c) k.0 v w rest f k.1

-- ---- the start

-- a start was found at the end of a walk that put every key back
at_start : (o : Option Place) (w : List ℕ) → start_of o ≡ Some w → o ≡ Some (place w [])
at_start None w h = let z : ◌≡◌ {A = ℕ} 0 1 = cc in absurd (omega arith)
at_start (Some a) w h = go a.window a.left h
  where
    go : (v l : List ℕ) → all_back v l ≡ Some w → Some (place v l) ≡ Some (place w [])
    go v [] e = let k : v ≡ w = cc in ap (λ (x : List ℕ). Some (place x [])) k
    go v (x ∷ l) e = let z : ◌≡◌ {A = ℕ} 0 1 = cc in absurd (omega arith)

low_aux : (m : ℕ) (l r : List ℕ) → any_over m l ≡ false → any_over m r ≡ false → any_over m (reverse_aux l r) ≡ false
low_aux m [] r h k = k
low_aux m (x ∷ l) r h k = low_aux m l (x ∷ r) (over_drop m (x ∷ l) h) (over_cons m x r (over_get m (x ∷ l) 0 h) k)

-- a start that led here fits the narrowed rules, and then no more than 1,024 items lie beneath
pub led_fits : (q : Rules) (start steps popped end : List ℕ) → LedBack q start steps popped end → length start ≤ (narrowed q).max_len
led_fits q start steps popped end l = narrowed_fits q (length start) l.fits l.stands

pub led_beneath : (q : Rules) (start steps popped end : List ℕ) → LedBack q start steps popped end → q.beneath ≤ 1024
led_beneath q start steps popped end l = omega (arith, tall_sum q.beneath (length start) l.stands)

-- above at most 1,024 items a start that fits the narrowed rules is one that replay takes
pub led_narrow : (q : Rules) (start steps popped end : List ℕ) → q.beneath ≤ 1024 → any_over 63 start ≡ false → length start ≤ (narrowed q).max_len → ran_on (narrowed q) 0 steps start ≡ ends end →
    popped_on (narrowed q) steps start ≡ popped → LedBack q start steps popped end
led_narrow q start steps popped end b k f l p =
    record { keys = k; fits = omega (arith, f, narrowed_most q); stands = narrowed_stands q (length start) b f; leads = l; pops = p }

-- the walk back finds every start that led here
pub finds : (q : Rules) (start steps popped end : List ℕ) → LedBack q start steps popped end → start_before (narrowed q) end steps popped ≡ Some start
unfolding start_before
finds q start steps popped end l =
    let n = narrowed q in
    let e : reverse popped ≡ reverse (popped_on n steps start) ++ [] = ap reverse (sym l.pops) ∙ sym (append-nil (reverse (popped_on n steps start))) in
    ap (λ (x : List ℕ). start_of (walked_back n steps (place end x))) e ∙ ap start_of (retraced n steps 0 start end [] (led_fits q start steps popped end l) l.leads)

-- what the walk back finds did lead here
pub found_led : (q : Rules) (start steps popped end : List ℕ) → q.beneath ≤ 1024 → length end ≤ (narrowed q).max_len → any_over 63 end ≡ false → any_over 63 popped ≡ false →
    start_before (narrowed q) end steps popped ≡ Some start → LedBack q start steps popped end
unfolding start_before
found_led q start steps popped end b f k p h =
    let n = narrowed q in
    let e = at_start (walked_back n steps (place end (reverse popped))) start h in
    let w = walked n steps (place end (reverse popped)) (place start []) f e in
    let l = walked_low n steps (place end (reverse popped)) (place start []) (record { window_low = k; left_low = low_aux 63 popped [] p refl }) e in
    led_narrow q start steps popped end b l.window_low w.fits (w.leads 0)
    (sym (reverse-reverse (popped_on n steps start)) ∙ ap reverse (sym (w.gone ∙ append-nil (reverse (popped_on n steps start)))) ∙ reverse-reverse popped)

-- there is one start at most
pub one_start : (q : Rules) (a b steps popped end : List ℕ) → LedBack q a steps popped end → LedBack q b steps popped end → a ≡ b
one_start q a b steps popped end l k =
    let e = finds q a steps popped end l in
    let f = finds q b steps popped end k in
    cc

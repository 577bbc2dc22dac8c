-- Laws of the printing code.
use Rattle.std.proofs.Common.{ℕ, zero, suc, ◌≡◌, ◌<◌, ◌≤◌, ◌+◌, ◌/◌, ◌%◌, ◌^◌, List, [], ◌∷◌, ◌++◌, Bool, true, false, Some, None, refl, ap, ◌∙◌, sym, arith, add-one, length, length-append, take, drop, get_or, append_assoc, append-nil, ne_eqb, eqb, ltb, ltb-true, ltb-false, take-append-drop, length-take, length-drop, length-take-le, take_at, drop_at, drop-drop, drop_of_length-le}
use Rattle.std.proofs.Math.Seq.{take-suc}
use Rattle.std.specs.Fmt as std
use Rattle.std.proofs.lemmas.Fmt.{decimal_by_steps}
use Rattle.costs.specs.Choice.{◌if◌otherwise◌}
use Rattle.costs.specs.Laws.{drop_turn}
use Rattle.costs.specs.Step.{decoded}
use Rattle.costs.specs.declared.Step.{Step}
use Rattle.desk_text.specs.Text.{lead_in, lead, decimal, line_text, step_text, code_text, steps_text}
use Rattle.desk_text.specs.Put.{put_at, Put, parted}

-- the digits of a number
lead_none : (k : ℕ) → lead_in k 0 ≡ []
unfolding lead_in
lead_none zero = refl
lead_none (suc k) = refl

lead_turns : (k m n : ℕ) → n ≤ k → n ≤ m → lead_in k n ≡ lead_in m n
unfolding lead_in
lead_turns zero m n h g = let e : n ≡ 0 = omega arith in rw e (sym (lead_none m))
lead_turns (suc k) zero n h g = let e : n ≡ 0 = omega arith in rw e
lead_turns (suc k) (suc m) n h g =
    let e : lead_in k (n / 10) ≡ lead_in m (n / 10) = lead_turns k m (n / 10) (omega arith) (omega arith) in
    ap (λ (l : List ℕ). [] if eqb n 0 otherwise (l ++ ((48 + n % 10) ∷ []))) e

lead_step : (n : ℕ) → 0 < n → lead n ≡ decimal n
unfolding lead lead_in decimal
lead_step zero h = absurd (omega arith)
lead_step (suc p) h =
    let e : lead_in p (suc p / 10) ≡ lead_in (suc p / 10) (suc p / 10) = lead_turns p (suc p / 10) (suc p / 10) (omega arith) (omega arith) in
    let z : suc p ≡ 0 → ⊥ = omega arith in
    rw (ne_eqb (suc p) 0 z) (ap (λ (l : List ℕ). l ++ ((48 + suc p % 10) ∷ [])) e)

decimal_one : (n : ℕ) → n < 10 → (48 + n) ∷ [] ≡ decimal n
unfolding decimal lead lead_in
decimal_one n h =
    let q : n / 10 ≡ 0 = omega arith in
    let r : n % 10 ≡ n = omega arith in
    rw (q, r)

decimal_more : (n : ℕ) (ds : List ℕ) → 10 ≤ n → ds ≡ decimal (n / 10) → ds ++ ((48 + n % 10) ∷ []) ≡ decimal n
unfolding decimal
decimal_more n ds h e = rw (e, lead_step (n / 10) (omega arith))

-- they are those that std writes
pub decimal_is : (n : ℕ) → n < 2 ^ 64 → std.decimal n ≡ decimal n
decimal_is n h = decimal_by_steps (λ k ds. ds ≡ decimal k) decimal_one decimal_more n h

-- a text put into a buffer
length_put : (old : List ℕ) (at : ℕ) (text : List ℕ) → at + length text ≤ length old → length (put_at old at text) ≡ length old
length_put old at text h = simp (length-append, length-take, length-drop) (omega arith)

pub put_length : {old : List ℕ} {at : ℕ} {text out : List ℕ} {r : ℕ} → Put old at text out r → length out ≡ length old
put_length {old} {at} {text} p = ap length p.list ∙ length_put old at text p.fits

-- a text behind a text
pub put_then : {old : List ℕ} {at : ℕ} {t one : List ℕ} {r : ℕ} {u two : List ℕ} {q : ℕ} → Put old at t one r → Put one r u two q → Put old at (t ++ u) two q
put_then {old} {at} {t} {one} {r} {u} {two} {q} a b =
    let n : length (t ++ u) ≡ length t + length u = length-append t u in
    let m : length one ≡ length old = put_length a in
    let k : length (take at old) ≡ at = length-take-le at old (omega (arith, a.fits)) in
    let f : length (take at old ++ t) ≡ r = length-append (take at old) t ∙ omega (arith, a.place) in
    let g : one ≡ (take at old ++ t) ++ drop (at + length t) old = a.list ∙ sym (append_assoc (take at old) t (drop (at + length t) old)) in
    let x : take r one ≡ take at old ++ t = ap (take r) g ∙ take_at (take at old ++ t) (drop (at + length t) old) r f in
    let y : drop r one ≡ drop (at + length t) old = ap (drop r) g ∙ drop_at (take at old ++ t) (drop (at + length t) old) r f in
    let w : at + length t + length u ≡ at + length (t ++ u) = omega arith in
    let z : drop (r + length u) one ≡ drop (at + length (t ++ u)) old =
    sym (drop-drop (length u) r one) ∙ ap (drop (length u)) y ∙ drop-drop (length u) (at + length t) old ∙ ap (λ (i : ℕ). drop i old) w in
    record {
      fits = omega (arith, b.fits, a.place);
      list = b.list ∙ rw (x, z, append_assoc (take at old) t, append_assoc t u);
      place = omega (arith, a.place, b.place);
    }

-- no text
put_none : (old : List ℕ) (at : ℕ) → at ≤ length old → Put old at [] old at
put_none old at h =
    let e : at + 0 ≡ at = omega arith in
    record { fits = omega arith; list = rw e (sym (take-append-drop at old)); place = omega arith }

-- the numbers of a line from one place on
line_turn : (ns : List ℕ) (i : ℕ) → i < length ns → line_text (drop i ns) ≡ (decimal (get_or ns i 0) ++ (parted i (length ns) ∷ [])) ++ line_text (drop (i + 1) ns)
unfolding line_text parted
line_turn ns i h = rw (drop_turn ns i h) (go (ltb (i + 1) (length ns)) refl)
  where
    go : (t : Bool) → ltb (i + 1) (length ns) ≡ t →
        line_text (get_or ns i 0 ∷ drop (i + 1) ns) ≡ (decimal (get_or ns i 0) ++ ((32 if t otherwise 10) ∷ [])) ++ line_text (drop (i + 1) ns)
    go true e =
        let k : i + 1 < length ns = ltb-true _ _ e in
        rw (drop_turn ns (i + 1) k, append_assoc (decimal (get_or ns i 0)) (32 ∷ []))
    go false e =
        let k : length ns ≤ i + 1 = ltb-false _ _ e in
        rw (drop_of_length-le ns k, append-nil)

-- a number more on a line
pub line_more : (ns bytes ds : List ℕ) (i n b : ℕ) → i < length ns → n ≡ get_or ns i 0 → n < 2 ^ 64 → ds ≡ std.decimal n → b ≡ parted i (length ns) →
    line_text ns ≡ bytes ++ line_text (drop i ns) → line_text ns ≡ ((bytes ++ ds) ++ (b ∷ [])) ++ line_text (drop (i + 1) ns)
line_more ns bytes ds i n b h e k f g w =
    let d : ds ≡ decimal (get_or ns i 0) = f ∙ decimal_is n k ∙ ap decimal e in
    w ∙ rw (line_turn ns i h, d, g, append_assoc bytes (decimal (get_or ns i 0)) (parted i (length ns) ∷ []), append_assoc bytes (decimal (get_or ns i 0) ++ (parted i (length ns) ∷ [])) (line_text (drop (i + 1) ns)))

pub line_end : (ns bytes : List ℕ) (i : ℕ) → length ns ≤ i → line_text ns ≡ bytes ++ line_text (drop i ns) → bytes ≡ line_text ns
unfolding line_text
line_end ns bytes i h w = sym (w ∙ rw (drop_of_length-le ns h, append-nil))

-- the lines of the steps
steps_append : (xs ys : List ℕ) → steps_text (xs ++ ys) ≡ steps_text xs ++ steps_text ys
unfolding steps_text
steps_append [] ys = refl
steps_append (x ∷ xs) ys = rw (steps_append xs ys) (sym (append_assoc (code_text (decoded x)) (steps_text xs) (steps_text ys)))

steps_turn : (steps : List ℕ) (i : ℕ) → i < length steps → steps_text (take (i + 1) steps) ≡ steps_text (take i steps) ++ code_text (decoded (get_or steps i 0))
unfolding steps_text
steps_turn steps i h = rw (add-one i, take-suc steps i 0 h, steps_append (take i steps) (get_or steps i 0 ∷ []), append-nil)

pub steps_start : (old : List ℕ) (at : ℕ) → at ≤ length old → Put old at (steps_text []) old at
unfolding steps_text
steps_start old at h = put_none old at h

module _ (old steps out : List ℕ) (at next i code : ℕ) (h : i < length steps) (e : code ≡ get_or steps i 0) (p : Put old at (steps_text (take i steps)) out next) where
  pub steps_more : (s : Step) (two : List ℕ) (q : ℕ) → Some s ≡ decoded code → Put out next (step_text s) two q → Put old at (steps_text (take (i + 1) steps)) two q
  steps_more s two q d w =
      let f : decoded (get_or steps i 0) ≡ Some s = ap decoded (sym e) ∙ sym d in
      rw (steps_turn steps i h, f) (put_then p w)

  pub steps_same : None ≡ decoded code → Put old at (steps_text (take (i + 1) steps)) out next
  steps_same d =
      let f : decoded (get_or steps i 0) ≡ None = ap decoded (sym e) ∙ sym d in
      rw (steps_turn steps i h, f, append-nil) p

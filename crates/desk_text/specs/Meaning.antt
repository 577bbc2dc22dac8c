-- The reader's answer after a text is the grammar's question of that text.
use Rattle.std.specs.Prelude.{ℕ, ◌<◌, ◌≤◌, Bool, List, [], ◌∷◌, ◌++◌, ◌≡◌, eqb, length, drop}
use Rattle.std.proofs.Math.Bool.{true, false}
use Rattle.std.specs.Prelude.{Option, None, Some}
use Rattle.std.proofs.Math.Path.{refl}
use Rattle.std.proofs.Common.{ap, sym, ◌∙◌, lt-ltb, le-ltb, eq-eqb, ne_eqb, eqb-true}
use native.Mathlib.Omega.{arith}
use Rattle.std.proofs.lemmas.Bool.{eqb-false}
use Rattle.std.proofs.Math.ListN.{take}
use Rattle.costs.specs.Choice.{◌if◌otherwise◌}
use Rattle.desk_text.specs.Noted.{Noted}
use Rattle.desk_text.specs.Grammar.{last_line, lines_from, words_from, all_digits, value_from, all_read, line_numbers}
use Rattle.desk_text.specs.Question.{Asked, question_of}
use Rattle.desk_text.specs.Machine.{fresh, lost, word_ended, first_closed, second_closed, third_closed, line_closed, line_fed, fed_byte, fed_all, at_end, outcome}
use Rattle.desk_text.specs.Reader.{Sound}
use Rattle.desk_text.specs.Words.{full, full_more, full_not, join_none}
use Rattle.desk_text.specs.Lines.{from_first, from_line, line_by_line, lines_none, line_bad, last_full, lines_bad}
use Rattle.desk_text.specs.Parts.{slot, Part, fresh_part, On, still, gone, Ended, readable, unreadable, by, space_on, digit_on, word_ends, none_ends}

-- the line ended: what the lines behind it make of the question
data Next (s : Noted) (f : List (List ℕ) → Option Asked) : Type 0 where
  line_next : (l st : List ℕ) → Part s [] l st [] [] → ((ls : List (List ℕ)) → f ls ≡ from_line s.line l st ls) → Next s f
  all_read_lem : s.line ≡ 3 → ((ls : List (List ℕ)) → f ls ≡ outcome s) → Next s f
  never : s.line ≡ 4 → ((ls : List (List ℕ)) → f ls ≡ None) → Next s f

-- the reader at the start of a line
line_start : (s : Noted) (l st : List ℕ) → Sound s → s.line < 3 → s.begun ≡ false → s.count ≡ 0 → s.digits ≡ false → s.value ≡ 0 →
    (1 ≤ s.line → slot 0 6 s.list ≡ l) → (2 ≤ s.line → slot 1 s.starts s.list ≡ st) → Part s [] l st [] []
unfolding all_digits value_from
line_start s l st w a b c d v f g =
    record {
      sound = w;
      active = a;
      first = f;
      second = g;
      here = rw c;
      began = b;
      none_yet = λ h. c;
      no_word = λ h. refl;
      word = record { digits = refl; worth = sym v; small = w.small };
      has = d;
      words = λ more. join_none (all_read (words_from [] more));
    }

-- a line with its numbers
line_good_first : (l st line ms : List ℕ) (ls : List (List ℕ)) → line_numbers line ≡ Some ms → length ms ≡ 6 → from_line 0 l st (line ∷ ls) ≡ from_line 1 ms st ls
line_good_first l st line ms ls h n = rw (h, n)

line_short_first : (l st line ms : List ℕ) (ls : List (List ℕ)) → line_numbers line ≡ Some ms → (length ms ≡ 6 → ⊥) → from_line 0 l st (line ∷ ls) ≡ None
line_short_first l st line ms ls h n = rw (h, ne_eqb (length ms) 6 n)

-- the line ends
module _ (s : Noted) (line l st ms : List ℕ) (h : line_numbers line ≡ Some ms) (c : length ms ≡ s.count) (w : Sound s) (d : s.digits ≡ false) (v : s.value ≡ 0) where
  first_next : s.line ≡ 0 → s.count ≡ 6 → slot s.line s.count s.list ≡ ms → Next (first_closed s) (λ ls. from_line 0 l st (line ∷ ls))
  unfolding first_closed
  first_next e n k =
      line_next ms st
      (line_start (first_closed s) ms st (record { small = w.small; within = omega arith; starts = w.starts; places = w.places })
      (omega arith) refl refl d v (λ i. rw (e, n) at k) (λ i. absurd (omega arith)))
      (λ ls. line_good_first l st line ms ls h (c ∙ n))

  second_next : s.line ≡ 1 → slot s.line s.count s.list ≡ ms → (1 ≤ s.line → slot 0 6 s.list ≡ l) → Next (second_closed s) (λ ls. from_line 1 l st (line ∷ ls))
  unfolding second_closed
  second_next e k f =
      line_next l ms
      (line_start (second_closed s) l ms (record { small = w.small; within = omega arith; starts = w.within; places = w.places })
      (omega arith) refl refl d v (λ i. f (omega arith)) (λ i. rw e at k))
      (λ ls. rw h)

  third_next : s.line ≡ 2 → slot s.line s.count s.list ≡ ms → (1 ≤ s.line → slot 0 6 s.list ≡ l) → (2 ≤ s.line → slot 1 s.starts s.list ≡ st) →
      Next (third_closed s) (λ ls. from_line 2 l st (line ∷ ls))
  unfolding third_closed outcome
  third_next e k f g =
      let x : take 6 s.list ≡ l = f (omega arith) in
      let y : take s.starts (drop 64 s.list) ≡ st = g (omega arith) in
      let z : take s.count (drop 128 s.list) ≡ ms = rw e at k in
      all_read_lem refl (λ ls. rw (h, x, y, z))

lost_closed : (s : Noted) → s.line ≡ 4 → line_closed s ≡ s
unfolding line_closed
lost_closed s e = rw e

lost_at : (s : Noted) → (lost s).line ≡ 4
unfolding lost
lost_at s = refl

line_ends : (s : Noted) (k : ℕ) (line l st : List ℕ) → k < 3 → Ended s k line l st → Next (line_closed s) (λ ls. from_line k l st (line ∷ ls))
unfolding line_closed
line_ends s k line l st a (unreadable h e) = rw (lost_closed s e) (never e (λ ls. line_bad k l st line ls h))
line_ends s k line l st a (readable ms h i c w e d v f g) =
    by (λ (r : Noted). Next r (λ ls. from_line k l st (line ∷ ls))) (eqb s.line 0)
    (λ x. let q : k ≡ 0 = sym e ∙ eqb-true _ _ x in
    by (λ (r : Noted). Next r (λ ls. from_line k l st (line ∷ ls))) (eqb s.count 6)
    (λ y. rw q (first_next s line l st ms h c w d v (eqb-true _ _ x) (eqb-true _ _ y) (rw e i)))
    (λ y. rw q (never (lost_at s) (λ ls. line_short_first l st line ms ls h (λ z. eqb-false _ _ y (sym c ∙ z))))))
    (λ x. by (λ (r : Noted). Next r (λ ls. from_line k l st (line ∷ ls))) (eqb s.line 1)
    (λ y. let q : k ≡ 1 = sym e ∙ eqb-true _ _ y in
    rw q (second_next s line l st ms h c w d v (eqb-true _ _ y) (rw e i) (λ z. f (omega arith))))
    (λ y. by (λ (r : Noted). Next r (λ ls. from_line k l st (line ∷ ls))) (eqb s.line 2)
    (λ z. let q : k ≡ 2 = sym e ∙ eqb-true _ _ z in
    rw q (third_next s line l st ms h c w d v (eqb-true _ _ z) (rw e i) (λ j. f (omega arith)) (λ j. g (omega arith))))
    (λ z. let m : s.line ≡ 0 → ⊥ = eqb-false _ _ x in
    let n : s.line ≡ 1 → ⊥ = eqb-false _ _ y in
    let o : s.line ≡ 2 → ⊥ = eqb-false _ _ z in
    absurd (omega arith))))

-- a line feed
feed_next : (s : Noted) (line l st ns w : List ℕ) → Part s line l st ns w → Next (line_fed s) (λ ls. from_line s.line l st (line ∷ ls))
unfolding line_fed
feed_next s line l st ns w p =
    by (λ (r : Noted). Next r (λ ls. from_line s.line l st (line ∷ ls))) s.begun
    (λ b. line_ends (word_ended s) s.line line l st p.active (word_ends s line l st ns w p (sym p.began ∙ b)))
    (λ b. line_ends s s.line line l st p.active (none_ends s line l st ns w p (sym p.began ∙ b)))

-- what the reader answers if the input ends
unfoldable pub heard : Noted → Option Asked
heard s = outcome (at_end s)

module _ (s : Noted) where
  past : (b : ℕ) → 2 < s.line → fed_byte s b ≡ s
  unfolding fed_byte
  past b h = rw (lt-ltb _ _ h)

  lost_none : s.line ≡ 4 → heard s ≡ None
  unfolding heard at_end outcome
  lost_none e =
      let q : fed_byte s 10 ≡ s = past 10 (omega arith) in
      rw q (go s.begun)
    where
      go : (b : Bool) → outcome (s if b otherwise s) ≡ None
      go true = rw e
      go false = rw e

  done_outcome : s.line ≡ 3 → heard s ≡ outcome s
  unfolding heard at_end
  done_outcome e =
      let q : fed_byte s 10 ≡ s = past 10 (omega arith) in
      rw q (go s.begun)
    where
      go : (b : Bool) → outcome (s if b otherwise s) ≡ outcome s
      go true = refl
      go false = refl

  early_none : s.line < 3 → outcome s ≡ None
  unfolding outcome
  early_none h = let n : s.line ≡ 3 → ⊥ = omega arith in rw (ne_eqb _ _ n)

pub past_all : (bs : List ℕ) (s : Noted) → 2 < s.line → fed_all s bs ≡ s
unfolding fed_all
past_all [] s h = refl
past_all (b ∷ bs) s h = ap (λ (r : Noted). fed_all r bs) (past s b h) ∙ past_all bs s h

-- what a reader answers at the end of the input, where a line ended just before
next_end : (s : Noted) (f : List (List ℕ) → Option Asked) → Next s f → outcome s ≡ f []
unfolding outcome
next_end s f (line_next l st p e) = early_none s p.active ∙ sym (e [] ∙ lines_none s.line l st)
next_end s f (all_read_lem h e) = sym (e [])
next_end s f (never h e) = rw h (sym (e []))

end_run : (s : Noted) (line l st ns w : List ℕ) → Part s line l st ns w → heard s ≡ from_line s.line l st (last_line line)
unfolding heard at_end fed_byte
end_run s line l st ns w p = go s.begun refl
  where
    go : (b : Bool) → s.begun ≡ b → outcome (fed_byte s 10 if b otherwise s) ≡ from_line s.line l st (last_line line)
    go true e =
        let f : full line ≡ true = sym p.began ∙ e in
        let n : s.line ≤ 2 = omega (arith, p.active) in
        rw (le-ltb _ _ n, last_full line f) (next_end (line_fed s) (λ ls. from_line s.line l st (line ∷ ls)) (feed_next s line l st ns w p))
    go false e =
        let f : line ≡ [] = full_not line (sym p.began ∙ e) in
        early_none s p.active ∙ rw f (sym (lines_none s.line l st))

-- a byte that is no line feed
byte_on : (s : Noted) (line l st ns w : List ℕ) (b : ℕ) → Part s line l st ns w → (b ≡ 10 → ⊥) → On (fed_byte s b) s.line (line ++ (b ∷ [])) l st
unfolding fed_byte
byte_on s line l st ns w b p n =
    let m : s.line ≤ 2 = omega (arith, p.active) in
    rw (le-ltb _ _ m, ne_eqb _ _ n)
    (by (λ (r : Noted). On r s.line (line ++ (b ∷ [])) l st) (eqb b 32) (λ e. space_on s line l st ns w p b (eqb-true _ _ e)) (λ e. digit_on s line l st ns w p b (eqb-false _ _ e)))

byte_feed : (s : Noted) (line l st ns w : List ℕ) (b : ℕ) → Part s line l st ns w → b ≡ 10 → fed_byte s b ≡ line_fed s
unfolding fed_byte
byte_feed s line l st ns w b p e =
    let m : s.line ≤ 2 = omega (arith, p.active) in
    rw (le-ltb _ _ m, eq-eqb _ _ e)

-- the reader's answer is that of the lines from the one that is read on
run : (bs : List ℕ) (s : Noted) (line l st ns w : List ℕ) → Part s line l st ns w → heard (fed_all s bs) ≡ from_line s.line l st (lines_from line bs)
unfolding fed_all lines_from
run [] s line l st ns w p = end_run s line l st ns w p
run (b ∷ bs) s line l st ns w p = go (run bs) (eqb b 10) refl
  where
    Hyp : Type 0
    Hyp = (s : Noted) (line l st ns w : List ℕ) → Part s line l st ns w → heard (fed_all s bs) ≡ from_line s.line l st (lines_from line bs)

    fed : Hyp → (r : Noted) (f : List (List ℕ) → Option Asked) → Next r f → heard (fed_all r bs) ≡ f (lines_from [] bs)
    fed i r f (line_next l st q e) = i r [] l st [] [] q ∙ sym (e (lines_from [] bs))
    fed i r f (all_read_lem h e) = ap heard (past_all bs r (omega arith)) ∙ done_outcome r h ∙ sym (e (lines_from [] bs))
    fed i r f (never h e) = ap heard (past_all bs r (omega arith)) ∙ lost_none r h ∙ sym (e (lines_from [] bs))

    on : Hyp → (r : Noted) → On r s.line (line ++ (b ∷ [])) l st → heard (fed_all r bs) ≡ from_line s.line l st (lines_from (line ++ (b ∷ [])) bs)
    on i r (still ms u q e) = i r (line ++ (b ∷ [])) l st ms u q ∙ ap (λ (k : ℕ). from_line k l st (lines_from (line ++ (b ∷ [])) bs)) e
    on i r (gone h e) =
        ap heard (past_all bs r (omega arith))
        ∙ lost_none r h
        ∙ sym (lines_bad (from_line s.line l st) bs (line ++ (b ∷ [])) (full_more line b) (λ more ls. line_bad s.line l st ((line ++ (b ∷ [])) ++ more) ls (e more)))

    go : Hyp → (t : Bool) → eqb b 10 ≡ t → heard (fed_all (fed_byte s b) bs) ≡ from_line s.line l st ((line ∷ lines_from [] bs) if t otherwise (lines_from (line ++ (b ∷ [])) bs))
    go i true e =
        ap (λ (r : Noted). heard (fed_all r bs)) (byte_feed s line l st ns w b p (eqb-true _ _ e))
        ∙ fed i (line_fed s) (λ ls. from_line s.line l st (line ∷ ls)) (feed_next s line l st ns w p)
    go i false e = on i (fed_byte s b) (byte_on s line l st ns w b p (eqb-false _ _ e))

-- the reader's answer after a text is the text's question
pub heard_question : (text : List ℕ) → heard (fed_all fresh text) ≡ question_of text
unfolding question_of fresh
heard_question text = run text fresh [] [] [] [] [] fresh_part ∙ at_first ∙ sym (line_by_line (lines_from [] text))
  where
    at_first : from_line fresh.line [] [] (lines_from [] text) ≡ from_first (lines_from [] text)
    at_first = refl

-- a text fed in two parts
pub fed_append : (xs ys : List ℕ) (s : Noted) → fed_all s (xs ++ ys) ≡ fed_all (fed_all s xs) ys
unfolding fed_all
fed_append [] ys s = refl
fed_append (x ∷ xs) ys s = fed_append xs ys (fed_byte s x)

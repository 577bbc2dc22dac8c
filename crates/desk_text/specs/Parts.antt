-- The reader in the middle of a line: one byte more, and the line's end.
use Rattle.std.specs.Prelude.{ℕ, ◌+◌, ◌*◌, ◌-◌, ◌<◌, ◌≤◌, Bool, true, false, ◌≡◌, eqb, ltb, take, drop, set}
use Rattle.std.proofs.lemmas.Bool.{false≢true}
use mathlib.Core.List.{List, [], ◌∷◌, ◌++◌, append_assoc, append-nil}
use Rattle.std.specs.Prelude.{None, Some}
use Rattle.std.proofs.Math.Path.{refl, ap, sym}
use Rattle.std.proofs.Common.{◌∙◌, add-one, arith, length-drop, take-suc-set, length-take-le}
use borrow.Author.Tests.{eq-eqb, ne_eqb, ltb-true, ltb-false, eqb-true, eqb-false}
use Rattle.std.proofs.Math.ListN.{length, length-set, length-append}
use Rattle.std.proofs.lemmas.List.{take-set-le, drop-set-add}
use Rattle.costs.specs.Choice.{◌if◌otherwise◌}
use Rattle.desk_text.specs.Noted.{Noted}
use Rattle.desk_text.specs.Grammar.{words_from, is_digit, value_from, number_of, before, all_read, few, line_numbers}
use Rattle.desk_text.specs.Machine.{no_numbers, fresh, lost, kept, word_ended, digit_kept, digit_fed}
use Rattle.desk_text.specs.Reader.{Sound, fresh_sound}
use Rattle.desk_text.specs.Words.{full, full_more, full_on, full_not, Word, word_empty, word_number, word_strange, word_large, word_more, join, join_none, join_one, line_words, line_empty, many, few_enough}

-- the first numbers of a line's 64 places
abbrev pub slot : ℕ → ℕ → List ℕ → List ℕ
slot k n list = take n (drop (64 * k) list)

slot_more : (k n : ℕ) (list : List ℕ) (v : ℕ) → 64 * k + n < length list → slot k (n + 1) (set list (64 * k + n) v) ≡ slot k n list ++ (v ∷ [])
slot_more k n list v h =
    let i : n < length (drop (64 * k) list) = omega (arith, length-drop (64 * k) list) in
    rw (add-one n, drop-set-add (64 * k) list n v, take-suc-set (drop (64 * k) list) n v i)

slot_first : (i : ℕ) (list : List ℕ) (v : ℕ) → 64 ≤ i → slot 0 6 (set list i v) ≡ slot 0 6 list
slot_first i list v h = take-set-le 6 list i v (omega arith)

slot_second : (n i : ℕ) (list : List ℕ) (v : ℕ) → n ≤ 64 → 128 ≤ i → slot 1 n (set list i v) ≡ slot 1 n list
slot_second n i list v h m =
    let e : i ≡ 64 + (i - 64) = omega arith in
    let k : n ≤ i - 64 = omega arith in
    ap (λ (j : ℕ). take n (drop 64 (set list j v))) e ∙ ap (take n) (drop-set-add 64 list (i - 64) v) ∙ take-set-le n (drop 64 list) (i - 64) v k

-- a reader in the middle of a line: l and st are the numbers of the lines before, ns those of the line so far, w the word so far
pub record Part (s : Noted) (line l st ns w : List ℕ) : Type 0 where
  pub sound : Sound s
  pub active : s.line < 3
  pub first : 1 ≤ s.line → slot 0 6 s.list ≡ l
  pub second : 2 ≤ s.line → slot 1 s.starts s.list ≡ st
  pub here : slot s.line s.count s.list ≡ ns
  pub began : s.begun ≡ full line
  pub none_yet : full line ≡ false → s.count ≡ 0
  pub no_word : full line ≡ false → w ≡ []
  pub word : Word w s.value
  pub has : s.digits ≡ full w
  pub words : (more : List ℕ) → all_read (words_from [] (line ++ more)) ≡ join ns (all_read (words_from w more))

pub fresh_part : Part fresh [] [] [] [] []
unfolding fresh no_numbers
fresh_part =
    record {
      sound = fresh_sound;
      active = omega arith;
      first = λ h. absurd (omega arith);
      second = λ h. absurd (omega arith);
      here = refl;
      began = refl;
      none_yet = λ h. refl;
      no_word = λ h. refl;
      word = word_empty;
      has = refl;
      words = λ more. join_none (all_read (words_from [] more));
    }

module _ (s : Noted) (line l st ns w : List ℕ) (p : Part s line l st ns w) where
  part_count : length ns ≡ s.count
  part_count =
      let n : s.count ≤ length (drop (64 * s.line) s.list) = omega (arith, length-drop (64 * s.line) s.list, p.sound.places, p.sound.within, p.active) in
      ap length (sym p.here) ∙ length-take-le s.count (drop (64 * s.line) s.list) n

  -- the words behind one byte more
  byte_words : (b : ℕ) (more : List ℕ) → all_read (words_from [] ((line ++ (b ∷ [])) ++ more)) ≡ join ns (all_read (words_from w (b ∷ more)))
  byte_words b more = ap (λ (a : List ℕ). all_read (words_from [] a)) (append_assoc line (b ∷ []) more) ∙ p.words (b ∷ more)

  -- the line's numbers with one byte more and whatever is behind it
  byte_line : (b : ℕ) (more : List ℕ) → line_numbers ((line ++ (b ∷ [])) ++ more) ≡ few (join ns (all_read (words_from w (b ∷ more))))
  byte_line b more = line_words ((line ++ (b ∷ [])) ++ more) (full_on (line ++ (b ∷ [])) more (full_more line b)) ∙ ap few (byte_words b more)

  digit_words : (b : ℕ) (more : List ℕ) → (b ≡ 32 → ⊥) → words_from w (b ∷ more) ≡ words_from (w ++ (b ∷ [])) more
  unfolding words_from
  digit_words b more n = rw (ne_eqb _ _ n)

  space_words : (b : ℕ) (more : List ℕ) → b ≡ 32 → all_read (words_from w (b ∷ more)) ≡ before (number_of w) (all_read (words_from [] more))
  unfolding words_from all_read
  space_words b more e = rw (eq-eqb _ _ e)

  end_words : all_read (words_from w []) ≡ before (number_of w) (Some [])
  unfolding words_from all_read
  end_words = refl

  -- no word
  no_number : s.digits ≡ false → number_of w ≡ None
  unfolding number_of
  no_number h = rw (full_not w (sym p.has ∙ h))

  number : s.digits ≡ true → number_of w ≡ Some s.value
  number h = word_number w s.value p.word (sym p.has ∙ h)

-- one byte more on the line: the reader is in the longer line, or lost, and the lines from the longer one on are unreadable
pub data On (s : Noted) (k : ℕ) (line l st : List ℕ) : Type 0 where
  still : (ns w : List ℕ) → Part s line l st ns w → s.line ≡ k → On s k line l st
  gone : s.line ≡ 4 → ((more : List ℕ) → line_numbers (line ++ more) ≡ None) → On s k line l st

-- the word ended: what the line's numbers are if the line ends here
pub data Ended (s : Noted) (k : ℕ) (line l st : List ℕ) : Type 0 where
  readable : (ms : List ℕ) → line_numbers line ≡ Some ms → slot k s.count s.list ≡ ms → length ms ≡ s.count → Sound s → s.line ≡ k → s.digits ≡ false → s.value ≡ 0 →
      (1 ≤ k → slot 0 6 s.list ≡ l) → (2 ≤ k → slot 1 s.starts s.list ≡ st) → Ended s k line l st
  unreadable : line_numbers line ≡ None → s.line ≡ 4 → Ended s k line l st

-- by a test
pub by : (P : Noted → Type 0) (b : Bool) {x y : Noted} → (b ≡ true → P x) → (b ≡ false → P y) → P (x if b otherwise y)
by P true p q = p refl
by P false p q = q refl

module _ (s : Noted) (line l st ns w : List ℕ) (p : Part s line l st ns w) where
  kept_sound : (s.count ≡ 64 → ⊥) → Sound (kept s)
  unfolding kept
  kept_sound n = record { small = omega arith; within = omega (arith, p.sound.within); starts = p.sound.starts; places = simp length-set p.sound.places }

  kept_first : 1 ≤ s.line → slot 0 6 (kept s).list ≡ l
  unfolding kept
  kept_first h = slot_first (64 * s.line + s.count) s.list s.value (omega arith) ∙ p.first h

  kept_second : 2 ≤ s.line → slot 1 (kept s).starts (kept s).list ≡ st
  unfolding kept
  kept_second h = slot_second s.starts (64 * s.line + s.count) s.list s.value p.sound.starts (omega arith) ∙ p.second h

  kept_here : (s.count ≡ 64 → ⊥) → slot s.line (kept s).count (kept s).list ≡ ns ++ (s.value ∷ [])
  unfolding kept
  kept_here n =
      slot_more s.line s.count s.list s.value (omega (arith, p.active, p.sound.within, p.sound.places))
      ∙ ap (λ (a : List ℕ). a ++ (s.value ∷ [])) p.here

  lost_line : (lost s).line ≡ 4
  unfolding lost
  lost_line = refl

  kept_line : (kept s).line ≡ s.line
  unfolding kept
  kept_line = refl

  space_kept : (b : ℕ) → b ≡ 32 → s.digits ≡ true → (s.count ≡ 64 → ⊥) → Part (kept s) (line ++ (b ∷ [])) l st (ns ++ (s.value ∷ [])) []
  unfolding kept
  space_kept b e d n =
      record {
        sound = kept_sound n;
        active = p.active;
        first = kept_first;
        second = kept_second;
        here = kept_here n;
        began = sym (full_more line b);
        none_yet = λ h. absurd (false≢true (sym h ∙ full_more line b));
        no_word = λ h. absurd (false≢true (sym h ∙ full_more line b));
        word = word_empty;
        has = refl;
        words = λ more. byte_words s line l st ns w p b more ∙ rw (space_words s line l st ns w p b more e, number s line l st ns w p d) (join_one ns s.value (all_read (words_from [] more)));
      }

  -- a space
  pub space_on : (b : ℕ) → b ≡ 32 → On (word_ended s) s.line (line ++ (b ∷ [])) l st
  unfolding word_ended
  space_on b e =
      by (λ (r : Noted). On r s.line (line ++ (b ∷ [])) l st) s.digits
      (λ d. by (λ (r : Noted). On r s.line (line ++ (b ∷ [])) l st) (eqb s.count 64)
      (λ f. gone lost_line (λ more. byte_line s line l st ns w p b more ∙ rw (space_words s line l st ns w p b more e, number s line l st ns w p d)
      (many ns s.value (all_read (words_from [] more)) (part_count s line l st ns w p ∙ eqb-true _ _ f))))
      (λ f. still (ns ++ (s.value ∷ [])) [] (space_kept b e d (eqb-false _ _ f)) kept_line))
      (λ d. gone lost_line (λ more. byte_line s line l st ns w p b more ∙ rw (space_words s line l st ns w p b more e, no_number s line l st ns w p d)))

  digit_kept_lem : (b : ℕ) → (b ≡ 32 → ⊥) → is_digit b ≡ true → s.value * 10 + (b - 48) ≤ 65536 →
      Part (digit_kept s (s.value * 10 + (b - 48))) (line ++ (b ∷ [])) l st ns (w ++ (b ∷ []))
  unfolding digit_kept
  digit_kept_lem b n d k =
      record {
        sound = record { small = omega arith; within = p.sound.within; starts = p.sound.starts; places = p.sound.places };
        active = p.active;
        first = p.first;
        second = p.second;
        here = p.here;
        began = sym (full_more line b);
        none_yet = λ h. absurd (false≢true (sym h ∙ full_more line b));
        no_word = λ h. absurd (false≢true (sym h ∙ full_more line b));
        word = word_more w s.value p.word b d k;
        has = sym (full_more w b);
        words = λ more. byte_words s line l st ns w p b more ∙ rw (digit_words s line l st ns w p b more n);
      }

  digit_line : (v : ℕ) → (digit_kept s v).line ≡ s.line
  unfolding digit_kept
  digit_line v = refl

  -- a byte that is neither a line feed nor a space
  pub digit_on : (b : ℕ) → (b ≡ 32 → ⊥) → On (digit_fed b s) s.line (line ++ (b ∷ [])) l st
  unfolding digit_fed
  digit_on b n =
      by (λ (r : Noted). On r s.line (line ++ (b ∷ [])) l st) (is_digit b)
      (λ d. by (λ (r : Noted). On r s.line (line ++ (b ∷ [])) l st) (ltb 65536 (s.value * 10 + (b - 48)))
      (λ f. gone lost_line (λ more. byte_line s line l st ns w p b more ∙ rw (digit_words s line l st ns w p b more n, word_large w s.value p.word b more (ltb-true _ _ f))))
      (λ f. still ns (w ++ (b ∷ [])) (digit_kept_lem b n d (ltb-false _ _ f)) (digit_line (s.value * 10 + (b - 48)))))
      (λ d. gone lost_line (λ more. byte_line s line l st ns w p b more ∙ rw (digit_words s line l st ns w p b more n, word_strange w s.value p.word b more d)))

  -- the line's numbers as they are where it ends with this word
  end_line : full line ≡ true → line_numbers line ≡ few (join ns (before (number_of w) (Some [])))
  end_line h =
      line_words line h
      ∙ ap (λ (a : List ℕ). few (all_read (words_from [] a))) (sym (append-nil line))
      ∙ ap few (p.words [] ∙ ap (join ns) (end_words s line l st ns w p))

  kept_ended : full line ≡ true → s.digits ≡ true → (s.count ≡ 64 → ⊥) → Ended (kept s) s.line line l st
  unfolding kept
  kept_ended h d n =
      let k : length (ns ++ (s.value ∷ [])) ≡ s.count + 1 = length-append ns (s.value ∷ []) ∙ omega (arith, part_count s line l st ns w p) in
      let m : length (ns ++ (s.value ∷ [])) ≤ 64 = omega (arith, p.sound.within) in
      readable (ns ++ (s.value ∷ []))
      (end_line h ∙ rw (number s line l st ns w p d) (few_enough (ns ++ (s.value ∷ [])) m))
      (kept_here n) k (kept_sound n) refl refl refl kept_first kept_second

  -- the line's last word ends
  pub word_ends : full line ≡ true → Ended (word_ended s) s.line line l st
  unfolding word_ended
  word_ends h =
      by (λ (r : Noted). Ended r s.line line l st) s.digits
      (λ d. by (λ (r : Noted). Ended r s.line line l st) (eqb s.count 64)
      (λ f. unreadable (end_line h ∙ rw (number s line l st ns w p d) (many ns s.value (Some []) (part_count s line l st ns w p ∙ eqb-true _ _ f))) lost_line)
      (λ f. kept_ended h d (eqb-false _ _ f)))
      (λ d. unreadable (end_line h ∙ rw (no_number s line l st ns w p d)) lost_line)

  -- an empty line
  pub none_ends : full line ≡ false → Ended s s.line line l st
  unfolding value_from
  none_ends h =
      let z : s.count ≡ 0 = p.none_yet h in
      let e : w ≡ [] = p.no_word h in
      readable [] (line_empty line h) (rw z) (sym z) p.sound refl (p.has ∙ ap full e) (sym p.word.worth ∙ ap (value_from 0) e) p.first p.second

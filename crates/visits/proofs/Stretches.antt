-- Lines stretch by stretch: a turn of the loop, words that are longer than any, how long the lines of a stretch are, and that stretch
-- after stretch prints what the whole input does. The proofs of lines.rt cite these. Assumes nothing.
use Rattle.std.specs.Prelude.{Err, Ok, Result}
use Prim.Native.Nat.{ℕ, zero, suc, ◌+◌, ◌*◌, ◌<◌, ◌≤◌}
use native.Mathlib.Numerals.{add-one}
use native.Mathlib.Omega.{arith}
use mathlib.Core.Path.{◌≡◌, refl, sym, ap, ap₂, ◌∙◌}
use mathlib.Core.Bool.{Bool, true, false}
use mathlib.Core.List.{List, [], ◌∷◌, ◌++◌, append_assoc}
use lib.ListN.{length, take, drop, get_or, length-append, drop_of_length-le}
use lib.Seq.{drop-cons, take-append-le, length-take-le}
use lib.Dec.{eqb}
use borrow.Author.Tests.{lt-ltb, eq-eqb, ne_eqb}
use Rattle.runs.specs.Runs.{pick}
use Rattle.tables.proofs.Compared.{by_order}
use Rattle.text.specs.Word.{word_limit, word_check, refusal_of}
use Rattle.text.specs.declared.word.WordFault.{WordFault}
use Rattle.text.specs.declared.word.WordFault.TheVariants as words
use Rattle.refusals.specs.Refusals.{numbers_of}
use Rattle.refusals.specs.declared.Refusal.TheVariants.{WordTooLong}
use Rattle.sheet.specs.Inputs.{of_word}
use Rattle.sheet.specs.Lines.{sheet_check}
use Rattle.analysis.specs.Answers.{visits_given}
use Rattle.analysis.proofs.Promises.{visits_are}
use Rattle.sheet.specs.Replies.{reply}
use Rattle.std.proofs.lemmas.List.{length-take}
use Rattle.std.proofs.lemmas.List.Sums.{fold-append}
use Rattle.writing.specs.Refused.{refused_text}
use Rattle.writing.specs.Writers.{with_byte, with_text}
use Rattle.writing.specs.declared.Writer.{Writer}
use Rattle.writing.proofs.Sizes.{digit-size, number_size}
use Rattle.paths.specs.Visits.{visits_of}
use Rattle.paths.proofs.Promises.{few_visits}
use Rattle.visits.specs.Printed.{said_or, visit_line, word_line, lines_of, unended, last_line}

-- a text no longer than this
pub take_short : (m : ℕ) (l : List ℕ) → length l ≤ m → take m l ≡ l
take_short zero [] h = refl
take_short (suc m) [] h = refl
take_short zero (x ∷ l) h = absurd (omega arith)
take_short (suc m) (x ∷ l) h = ap (λ (t : List ℕ). x ∷ t) (take_short m l (omega arith))

-- the line of a word, by what the check of the word says
module _ (sheet w : List ℕ) where
  pub line_refused : (f : WordFault) → word_check w ≡ Err f → word_line sheet w ≡ refused_text (numbers_of (refusal_of f))
  unfolding word_line
  line_refused f e = ap (λ (c : Result (Unit {0}) WordFault). said_or (of_word c) (visit_line (visits_of (reply sheet) w) w)) e

  pub line_told : word_check w ≡ Ok tt → sheet_check sheet ≡ Ok tt → (n : ℕ) → n ≡ visits_given w sheet → word_line sheet w ≡ visit_line n w
  unfolding word_line
  line_told e a n m =
      ap (λ (c : Result (Unit {0}) WordFault). said_or (of_word c) (visit_line (visits_of (reply sheet) w) w)) e
      ∙ ap (λ (k : ℕ). visit_line k w) (sym (m ∙ visits_are w sheet e a))

module _ (sheet : List ℕ) where
  -- Words that are longer than any.

  too_long : (w : List ℕ) → 192 < length w → word_line sheet w ≡ refused_text (numbers_of WordTooLong)
  unfolding word_line word_check
  too_long w h = rw (lt-ltb word_limit (length w) h)

  longer : (w : List ℕ) (b : ℕ) → 192 < length w → 192 < length (w ++ b ∷ [])
  longer w b h = rw (length-append w (b ∷ [])) (omega arith)

  lines_long : (v w rest : List ℕ) → 192 < length v → 192 < length w → lines_of sheet v rest ≡ lines_of sheet w rest
  unfolding lines_of
  lines_long v w [] g h = refl
  lines_long v w (b ∷ rest) g h =
      ap₂ (pick (eqb b 0x0A)) (ap (λ (l : List ℕ). l ++ lines_of sheet [] rest) (too_long v g ∙ sym (too_long w h)))
      (lines_long (v ++ b ∷ []) (w ++ b ∷ []) rest (longer v b g) (longer w b h))

  -- A turn of the loop.

  module _ (text : List ℕ) (i : ℕ) (h : i < length text) (before : List ℕ) where
    next : drop i text ≡ get_or text i 0 ∷ drop (i + 1) text
    next = drop-cons text i 0 h ∙ ap (λ (k : ℕ). get_or text i 0 ∷ drop k text) (sym (add-one i))

    -- a 0A ends the word
    pub line_ended : get_or text i 0 ≡ 0x0A → lines_of sheet before (drop i text) ≡ word_line sheet before ++ lines_of sheet [] (drop (i + 1) text)
    unfolding lines_of
    line_ended e = ap (lines_of sheet before) next ∙ rw (eq-eqb (get_or text i 0) 0x0A e)

    pub word_ended : get_or text i 0 ≡ 0x0A → unended before (drop i text) ≡ unended [] (drop (i + 1) text)
    unfolding unended
    word_ended e = ap (unended before) next ∙ rw (eq-eqb (get_or text i 0) 0x0A e)

    -- any other byte belongs to it
    pub line_longer : (get_or text i 0 ≡ 0x0A → ⊥) → lines_of sheet before (drop i text) ≡ lines_of sheet (before ++ get_or text i 0 ∷ []) (drop (i + 1) text)
    unfolding lines_of
    line_longer e = ap (lines_of sheet before) next ∙ rw (ne_eqb (get_or text i 0) 0x0A e)

    pub word_longer : (get_or text i 0 ≡ 0x0A → ⊥) → unended before (drop i text) ≡ unended (before ++ get_or text i 0 ∷ []) (drop (i + 1) text)
    unfolding unended
    word_longer e = ap (unended before) next ∙ rw (ne_eqb (get_or text i 0) 0x0A e)

    -- of a word that is longer than any no more is kept
    pub line_full : 192 < length before → (get_or text i 0 ≡ 0x0A → ⊥) → lines_of sheet before (drop i text) ≡ lines_of sheet before (drop (i + 1) text)
    line_full l e = line_longer e ∙ lines_long (before ++ get_or text i 0 ∷ []) before (drop (i + 1) text) (longer before (get_or text i 0) l) l

  pub lines_none : (text : List ℕ) (i : ℕ) (before : List ℕ) → length text ≤ i → lines_of sheet before (drop i text) ≡ []
  unfolding lines_of
  lines_none text i before h = ap (lines_of sheet before) (drop_of_length-le text h)

-- The word that is kept, of which 193 bytes count.

kept_same : (v w rest : List ℕ) → 193 ≤ length v → 193 ≤ length w → take 193 v ≡ take 193 w → take 193 (unended v rest) ≡ take 193 (unended w rest)
unfolding unended
kept_same v w [] g h e = e
kept_same v w (b ∷ rest) g h e = by (eqb b 0x0A) (kept_same (v ++ b ∷ []) (w ++ b ∷ []) rest (rw (length-append v (b ∷ [])) (omega arith)) (rw (length-append w (b ∷ [])) (omega arith))
    (take-append-le 193 v (b ∷ []) g ∙ e ∙ sym (take-append-le 193 w (b ∷ []) h)))
  where
    by : (x : Bool) → take 193 (unended (v ++ b ∷ []) rest) ≡ take 193 (unended (w ++ b ∷ []) rest)
        → take 193 (pick x (unended [] rest) (unended (v ++ b ∷ []) rest)) ≡ take 193 (pick x (unended [] rest) (unended (w ++ b ∷ []) rest))
    by true r = refl
    by false r = r

pub word_full : (sheet text : List ℕ) (i : ℕ) → i < length text → (before : List ℕ) → 193 ≤ length before → (get_or text i 0 ≡ 0x0A → ⊥)
    → take 193 (unended before (drop i text)) ≡ take 193 (unended before (drop (i + 1) text))
word_full sheet text i h before l e =
    ap (take 193) (word_longer sheet text i h before e)
    ∙ kept_same (before ++ get_or text i 0 ∷ []) before (drop (i + 1) text) (rw (length-append before (get_or text i 0 ∷ [])) (omega arith)) l (take-append-le 193 before (get_or text i 0 ∷ []) l)

pub word_none : (text : List ℕ) (i : ℕ) (before : List ℕ) → length text ≤ i → unended before (drop i text) ≡ before
unfolding unended
word_none text i before h = ap (unended before) (drop_of_length-le text h)

-- A turn of the loop: of the text the bytes from i on are to come, and `word` is what is kept of the word before them.
pub record Turned (sheet text before : List ℕ) (first : Writer) (i : ℕ) (word : List ℕ) (w : Writer) : Type 0 where
  pub few : length word ≤ 193
  pub lines : with_text w (lines_of sheet word (drop i text)) ≡ with_text first (lines_of sheet before text)
  pub kept : take 193 (unended word (drop i text)) ≡ take 193 (unended before text)

module _ (sheet text before : List ℕ) (first : Writer) (i : ℕ) (word : List ℕ) (w : Writer) (t : Turned sheet text before first i word w) where
  -- a 0A ends the word, any other byte belongs to it, but of a word that is longer than any no more is kept
  pub turn_ended : i < length text → get_or text i 0 ≡ 0x0A → (new : Writer) → new ≡ with_text w (word_line sheet word) → (none : List ℕ) → none ≡ []
      → Turned sheet text before first (i + 1) none new
  turn_ended h b new p none e = rw (p, e) (record {
    few = omega arith;
    lines = sym (ap (with_text w) (line_ended sheet text i h word b) ∙ fold-append with_byte w (word_line sheet word) _) ∙ t.lines;
    kept = sym (ap (take 193) (word_ended sheet text i h word b)) ∙ t.kept;
  })

  pub turn_longer : i < length text → (get_or text i 0 ≡ 0x0A → ⊥) → length word < 193 → (longer : List ℕ) → longer ≡ word ++ get_or text i 0 ∷ []
      → Turned sheet text before first (i + 1) longer w
  turn_longer h b l longer e = rw e (record {
    few = rw (length-append word (get_or text i 0 ∷ [])) (omega arith);
    lines = sym (ap (with_text w) (line_longer sheet text i h word b)) ∙ t.lines;
    kept = sym (ap (take 193) (word_longer sheet text i h word b)) ∙ t.kept;
  })

  pub turn_full : i < length text → (get_or text i 0 ≡ 0x0A → ⊥) → 193 ≤ length word → Turned sheet text before first (i + 1) word w
  turn_full h b l = record {
    few = t.few;
    lines = sym (ap (with_text w) (line_full sheet text i h word (omega arith) b)) ∙ t.lines;
    kept = sym (word_full sheet text i h word l b) ∙ t.kept;
  }

  pub turn_end : length text ≤ i → (w ≡ with_text first (lines_of sheet before text)) × (word ≡ take 193 (unended before text))
  turn_end h = (
    sym (ap (with_text w) (lines_none sheet text i word h)) ∙ t.lines,
    sym (take_short 193 word t.few) ∙ sym (ap (take 193) (word_none text i word h)) ∙ t.kept,
  )

-- How long the lines are: each has at most 12 bytes more than its word.

visit_size : (n : ℕ) (w : List ℕ) → n ≤ 5000 → length (visit_line n w) ≤ length w + 12
unfolding visit_line
visit_size n w h = let d = number_size n (omega arith) in simp length-append (omega arith)

refused-size : (n : ℕ) → n < 10 → length (refused_text (n ∷ [])) ≤ 12
unfolding refused_text
refused-size n h = let d = digit-size n h in simp length-append (omega arith)

pub word_size : (sheet w : List ℕ) → length (word_line sheet w) ≤ length w + 12
unfolding word_line
word_size sheet w = by (word_check w)
  where
    by : (x : Result (Unit {0}) WordFault) → length (said_or (of_word x) (visit_line (visits_of (reply sheet) w) w)) ≤ length w + 12
    by (Ok _) = visit_size (visits_of (reply sheet) w) w (few_visits (reply sheet) w)
    by (Err words.TooLong) = let t = refused-size 1 (omega arith) in omega arith
    by (Err words.NotUtf8) = let t = refused-size 2 (omega arith) in omega arith
    by (Err words.Forbidden) = let t = refused-size 3 (omega arith) in omega arith

pub lines-size : (sheet before text : List ℕ) → length (lines_of sheet before text) ≤ length before + 13 * length text
unfolding lines_of
lines-size sheet before [] = omega arith
lines-size sheet before (b ∷ text) = by (eqb b 0x0A) (lines-size sheet [] text) (lines-size sheet (before ++ b ∷ []) text)
  where
    by : (x : Bool) → length (lines_of sheet [] text) ≤ 0 + 13 * length text → length (lines_of sheet (before ++ b ∷ []) text) ≤ length (before ++ b ∷ []) + 13 * length text
        → length (pick x (word_line sheet before ++ lines_of sheet [] text) (lines_of sheet (before ++ b ∷ []) text)) ≤ length before + 13 * suc (length text)
    by true h k = let l = word_size sheet before in simp length-append (omega arith)
    by false h k = let l : length (before ++ b ∷ []) ≡ length before + 1 = length-append before (b ∷ []) in omega arith

pub last_none : (sheet w : List ℕ) → length w ≡ 0 → last_line sheet w ≡ []
unfolding last_line
last_none sheet [] h = refl
last_none sheet (b ∷ w) h = absurd (omega arith)

pub last_some : (sheet w : List ℕ) → 0 < length w → last_line sheet w ≡ word_line sheet w
unfolding last_line
last_some sheet [] h = absurd (omega arith)
last_some sheet (b ∷ w) h = refl

pub last-size : (sheet w : List ℕ) → length (last_line sheet w) ≤ length w + 12
unfolding last_line
last-size sheet [] = omega arith
last-size sheet (b ∷ w) = word_size sheet (b ∷ w)

pub few_kept : (word text : List ℕ) → word ≡ take 193 text → length word ≤ 193
few_kept word text e = rw (e, length-take) (omega arith)

-- Stretch after stretch: the lines of two stretches are those of the first, and then those of the second behind what the first has left,
-- of which 193 bytes are kept.

lines-kept : (sheet w rest : List ℕ) → lines_of sheet (take 193 w) rest ≡ lines_of sheet w rest
lines-kept sheet w rest = by_order (length w) 193
    (λ l. ap (λ (x : List ℕ). lines_of sheet x rest) (take_short 193 w (omega arith)))
    (λ l. lines_long sheet (take 193 w) w rest (let n : length (take 193 w) ≡ 193 = length-take-le 193 w l in omega arith) (omega arith))

pub lines-both : (sheet before a b : List ℕ) → lines_of sheet before (a ++ b) ≡ lines_of sheet before a ++ lines_of sheet (take 193 (unended before a)) b
unfolding lines_of unended
lines-both sheet before [] b = sym (lines-kept sheet before b)
lines-both sheet before (x ∷ a) b = by (eqb x 0x0A) (lines-both sheet [] a b) (lines-both sheet (before ++ x ∷ []) a b)
  where
    by : (t : Bool) → lines_of sheet [] (a ++ b) ≡ lines_of sheet [] a ++ lines_of sheet (take 193 (unended [] a)) b
        → lines_of sheet (before ++ x ∷ []) (a ++ b) ≡ lines_of sheet (before ++ x ∷ []) a ++ lines_of sheet (take 193 (unended (before ++ x ∷ []) a)) b
        → pick t (word_line sheet before ++ lines_of sheet [] (a ++ b)) (lines_of sheet (before ++ x ∷ []) (a ++ b))
        ≡ pick t (word_line sheet before ++ lines_of sheet [] a) (lines_of sheet (before ++ x ∷ []) a) ++ lines_of sheet (take 193 (pick t (unended [] a) (unended (before ++ x ∷ []) a))) b
    by true p q = ap (λ (l : List ℕ). word_line sheet before ++ l) p ∙ sym (append_assoc (word_line sheet before) (lines_of sheet [] a) _)
    by false p q = q

kept-kept : (w rest : List ℕ) → take 193 (unended (take 193 w) rest) ≡ take 193 (unended w rest)
kept-kept w rest = by_order (length w) 193
    (λ l. ap (λ (x : List ℕ). take 193 (unended x rest)) (take_short 193 w (omega arith)))
    (λ l. let n : length (take 193 w) ≡ 193 = length-take-le 193 w l in kept_same (take 193 w) w rest (omega arith) l (take_short 193 (take 193 w) (omega arith)))

pub kept-both : (before a b : List ℕ) → take 193 (unended before (a ++ b)) ≡ take 193 (unended (take 193 (unended before a)) b)
unfolding unended
kept-both before [] b = sym (kept-kept before b)
kept-both before (x ∷ a) b = by (eqb x 0x0A) (kept-both [] a b) (kept-both (before ++ x ∷ []) a b)
  where
    by : (t : Bool) → take 193 (unended [] (a ++ b)) ≡ take 193 (unended (take 193 (unended [] a)) b)
        → take 193 (unended (before ++ x ∷ []) (a ++ b)) ≡ take 193 (unended (take 193 (unended (before ++ x ∷ []) a)) b)
        → take 193 (pick t (unended [] (a ++ b)) (unended (before ++ x ∷ []) (a ++ b))) ≡ take 193 (unended (take 193 (pick t (unended [] a) (unended (before ++ x ∷ []) a))) b)
    by true p q = p
    by false p q = q

-- the last word, of which 193 bytes are kept too
pub last-kept : (sheet w : List ℕ) → last_line sheet (take 193 w) ≡ last_line sheet w
unfolding last_line
last-kept sheet w = by_order (length w) 193 (λ l. ap (last_line sheet) (take_short 193 w (omega arith))) (go w)
  where
    go : (v : List ℕ) → 193 ≤ length v → last_line sheet (take 193 v) ≡ last_line sheet v
    go [] l = absurd (omega arith)
    go (b ∷ v) l =
        let n : length (take 193 (b ∷ v)) ≡ 193 = length-take-le 193 (b ∷ v) l in
        too_long sheet (take 193 (b ∷ v)) (omega arith) ∙ sym (too_long sheet (b ∷ v) (omega arith))

-- So what the program prints for a sheet that is accepted, stretch by stretch, is what is printed for the whole input.

-- the stretches one after the other
abbrev pub joined : List (List ℕ) → List ℕ
joined [] = []
joined (a ∷ stretches) = a ++ joined stretches

-- what the stretches print, and then the last word
abbrev pub stretch_text : List ℕ → List ℕ → List (List ℕ) → List ℕ
stretch_text sheet before [] = last_line sheet before
stretch_text sheet before (a ∷ stretches) = lines_of sheet before a ++ stretch_text sheet (take 193 (unended before a)) stretches

pub stretches_print : (sheet : List ℕ) (stretches : List (List ℕ)) (before : List ℕ)
    → stretch_text sheet before stretches ≡ lines_of sheet before (joined stretches) ++ last_line sheet (unended before (joined stretches))
unfolding lines_of unended
stretches_print sheet [] before = refl
stretches_print sheet (a ∷ stretches) before =
    let rest = joined stretches in
    let kept = take 193 (unended before a) in
    ap (λ (l : List ℕ). lines_of sheet before a ++ l)
    (stretches_print sheet stretches kept
    ∙ ap (λ (l : List ℕ). lines_of sheet kept rest ++ l) (sym (last-kept sheet (unended kept rest)) ∙ ap (last_line sheet) (sym (kept-both before a rest)) ∙ last-kept sheet (unended before (a ++ rest))))
    ∙ sym (append_assoc (lines_of sheet before a) (lines_of sheet kept rest) (last_line sheet (unended before (a ++ rest))))
    ∙ ap (λ (l : List ℕ). l ++ last_line sheet (unended before (a ++ rest))) (sym (lines-both sheet before a rest))

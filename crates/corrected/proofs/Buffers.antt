-- Request (c) as theorems about the buffer: what is known where an edit was made, and which number is given where it was not. Assumes nothing.
use Rattle.std.specs.Prelude.{Err, Ok, Result}
use Prim.Native.Nat.{ℕ, ◌+◌, ◌-◌, ◌≤◌}
use native.Mathlib.Omega.{arith}
use mathlib.Core.Path.{◌≡◌, refl, sym, ap, subst, ◌∙◌}
use mathlib.Core.Bool.{Bool, true, false, not, ◌&&◌, ◌||◌}
use mathlib.Core.List.{List, [], ◌++◌}
use lib.ListN.{length, take, drop, length-append, length-drop}
use lib.Seq.{take_at, drop_at, length-take-le}
use lib.Dec.{leb, ltb}
use borrow.Author.Tests.{lt-ltb, le-ltb, le-leb, leb-true, leb-false, ltb-false}
use Rattle.runs.specs.Runs.{pick}
use Rattle.refusals.specs.Refusals.{number, written_numbers, output_by, cause_if, lowest_numbers_of}
use Rattle.refusals.specs.declared.Refusal.{Refusal}
use Rattle.refusals.specs.declared.Refusal.TheVariants.{SheetTooLong, SheetNoForm, SheetNotAbove, NoSingleForm, NothingToWithdraw, NoRoom}
use Rattle.refusals.proofs.Lowest.{AtLeast, at_least_if, at_least_down, lead}
use Rattle.sheet.specs.Limits.{sheet_limit}
use Rattle.sheet.specs.Forms.{entry_of, key, key_of}
use Rattle.sheet.specs.Lines.{starts_of, lines_of, judged, sheet_check}
use Rattle.sheet.specs.Replies.{Reply, unknown, told, reply_in, reply, Alike}
use Rattle.sheet.specs.Inputs.{by_sheet, or_else, fault_of}
use Rattle.sheet.specs.declared.check.SheetFault.{SheetFault}
use Rattle.sheet.specs.declared.check.SheetFault.TheVariants as sheets
use Rattle.sheet.proofs.Accepted.{accepted-short}
use Rattle.corrected.specs.Sets.{is_single, put_text, withdrawn_text}
use Rattle.corrected.specs.Answers.{opening_of, answered_by, fitting, withdrawing, is_unknown, put_of, withdraw_of, put_left, withdraw_left, Made, put, withdrawn}
use Rattle.corrected.proofs.Promises.{put-length, withdrawn-length, put-accepted, withdrawn-accepted, put_others, withdrawn_others, put-withdrawn, put-told}

-- what an answer that is no refusal says
answered_wrote : (i : Result (Unit {0}) Refusal) (w : Result ℕ Refusal) (n : ℕ) → answered_by i w ≡ Ok n → (i ≡ Ok tt) × (w ≡ Ok n)
answered_wrote (Ok _) w n e = (refl, e)
answered_wrote (Err r) w n e = let z : ◌≡◌ {A = ℕ} 0 1 = cc in absurd (omega arith)

fitting_wrote : (size room n : ℕ) → fitting size room ≡ Ok n → (n ≡ size) × (n ≤ room) × (n ≤ sheet_limit)
fitting_wrote size room n e = by (leb size room) (leb size sheet_limit) refl refl e
  where
    by : (a b : Bool) → leb size room ≡ a → leb size sheet_limit ≡ b → pick (a && b) (Ok size) (Err NoRoom) ≡ Ok n → (n ≡ size) × (n ≤ room) × (n ≤ sheet_limit)
    by true true p q f = let z : n ≡ size = cc in (z, omega (arith, leb-true size room p), omega (arith, leb-true size sheet_limit q))
    by true false p q f = let z : ◌≡◌ {A = ℕ} 0 1 = cc in absurd (omega arith)
    by false b p q f = let z : ◌≡◌ {A = ℕ} 0 1 = cc in absurd (omega arith)

withdrawing_wrote : (x : Reply) (size n : ℕ) → withdrawing x size ≡ Ok n → (n ≡ size) × (is_unknown x ≡ false)
withdrawing_wrote unknown size n e = let z : ◌≡◌ {A = ℕ} 0 1 = cc in absurd (omega arith)
withdrawing_wrote (told v) size n e = (cc, refl)

-- a buffer in which a sheet of n bytes was written afresh
module _ (buf text : List ℕ) (n : ℕ) (e : n ≡ length text) where
  text-front : take n (text ++ drop (length text) buf) ≡ text
  text-front = take_at text (drop (length text) buf) n (sym e)

  text-behind : drop n (text ++ drop (length text) buf) ≡ drop n buf
  text-behind = drop_at text (drop (length text) buf) n (sym e) ∙ ap (λ (k : ℕ). drop k buf) (sym e)

  text-size : n ≤ length buf → length (text ++ drop (length text) buf) ≡ length buf
  text-size h = omega (arith, length-append text (drop (length text) buf), length-drop (length text) buf)

module _ (buf : List ℕ) (used : ℕ) (line : List ℕ) where
  abbrev sheet : List ℕ
  sheet = take used buf

  opening_parts : opening_of buf used line ≡ Ok tt → (used ≤ length buf) × (sheet_check sheet ≡ Ok tt) × (is_single line ≡ true)
  unfolding opening_of
  opening_parts e = by (ltb (length buf) used) (sheet_check sheet) (is_single line) refl refl refl e
    where
      by : (a : Bool) (y : Result (Unit {0}) SheetFault) (c : Bool) → ltb (length buf) used ≡ a → sheet_check sheet ≡ y → is_single line ≡ c
          → pick a (Err SheetTooLong) (or_else (by_sheet y) (pick c (Ok tt) (Err NoSingleForm))) ≡ Ok tt → (used ≤ length buf) × (sheet_check sheet ≡ Ok tt) × (is_single line ≡ true)
      by true y c p q r f = let z : ◌≡◌ {A = ℕ} 0 1 = cc in absurd (omega arith)
      by false (Ok _) true p q r f = (ltb-false _ _ p, q, r)
      by false (Ok _) false p q r f = let z : ◌≡◌ {A = ℕ} 0 1 = cc in absurd (omega arith)
      by false (Err sheets.TooLong) c p q r f = let z : ◌≡◌ {A = ℕ} 0 1 = cc in absurd (omega arith)
      by false (Err (sheets.NoForm at)) c p q r f = let z : ◌≡◌ {A = ℕ} 0 1 = cc in absurd (omega arith)
      by false (Err (sheets.NotAbove at)) c p q r f = let z : ◌≡◌ {A = ℕ} 0 1 = cc in absurd (omega arith)

  -- a line was put
  module _ (n : ℕ) (e : put_of buf used line ≡ Ok n) where
    put-parts : (opening_of buf used line ≡ Ok tt) × (fitting (length (put_text sheet line)) (length buf) ≡ Ok n)
    unfolding put_of
    put-parts = answered_wrote (opening_of buf used line) (fitting (length (put_text sheet line)) (length buf)) n e

    pub put-opened : (used ≤ length buf) × (sheet_check sheet ≡ Ok tt) × (is_single line ≡ true)
    put-opened = opening_parts put-parts.0

    pub put-size : (n ≡ length (put_text sheet line)) × (n ≤ length buf) × (n ≤ sheet_limit)
    put-size = fitting_wrote (length (put_text sheet line)) (length buf) n put-parts.1

    put-left : put_left buf used line ≡ put_text sheet line ++ drop (length (put_text sheet line)) buf
    unfolding put_left
    put-left = ap (λ (w : Result ℕ Refusal). output_by w (put_text sheet line) buf) e

    -- the first n bytes are the sheet written afresh, and behind them the buffer holds what it held
    pub put_front : take n (put_left buf used line) ≡ put_text sheet line
    put_front = ap (take n) put-left ∙ text-front buf (put_text sheet line) n put-size.0

    pub put-behind : drop n (put_left buf used line) ≡ drop n buf
    put-behind = ap (drop n) put-left ∙ text-behind buf (put_text sheet line) n put-size.0

    pub put-room : length (put_left buf used line) ≡ length buf
    put-room = ap length put-left ∙ text-size buf (put_text sheet line) n put-size.0 put-size.1

  -- a line was withdrawn
  module _ (n : ℕ) (e : withdraw_of buf used line ≡ Ok n) where
    withdrawn-parts : (opening_of buf used line ≡ Ok tt) × (withdrawing (reply_in (lines_of sheet) (key (entry_of line))) (length (withdrawn_text sheet line)) ≡ Ok n)
    unfolding withdraw_of
    withdrawn-parts = answered_wrote (opening_of buf used line) _ n e

    pub withdrawn-opened : (used ≤ length buf) × (sheet_check sheet ≡ Ok tt) × (is_single line ≡ true)
    withdrawn-opened = opening_parts withdrawn-parts.0

    pub withdrawn-size : (n ≡ length (withdrawn_text sheet line)) × (n ≤ used)
    withdrawn-size =
        let z = (withdrawing_wrote (reply_in (lines_of sheet) (key (entry_of line))) (length (withdrawn_text sheet line)) n withdrawn-parts.1).0 in
        (z, omega (arith, z, withdrawn-length sheet line withdrawn-opened.1 withdrawn-opened.2, length-take-le used buf withdrawn-opened.0))

    withdrawn-left : withdraw_left buf used line ≡ withdrawn_text sheet line ++ drop (length (withdrawn_text sheet line)) buf
    unfolding withdraw_left
    withdrawn-left = ap (λ (w : Result ℕ Refusal). output_by w (withdrawn_text sheet line) buf) e

    pub withdrawn-front : take n (withdraw_left buf used line) ≡ withdrawn_text sheet line
    withdrawn-front = ap (take n) withdrawn-left ∙ text-front buf (withdrawn_text sheet line) n withdrawn-size.0

    pub withdrawn-behind : drop n (withdraw_left buf used line) ≡ drop n buf
    withdrawn-behind = ap (drop n) withdrawn-left ∙ text-behind buf (withdrawn_text sheet line) n withdrawn-size.0

    pub withdrawn-room : length (withdraw_left buf used line) ≡ length buf
    withdrawn-room = ap length withdrawn-left ∙ text-size buf (withdrawn_text sheet line) n withdrawn-size.0 (omega (arith, withdrawn-size.1, withdrawn-opened.0))

  -- an edit was made: the sheet before it was accepted, and so is the sheet after it
  pub made_accepted : (after : List ℕ) (n : ℕ) → Made buf used line after n → (sheet_check sheet ≡ Ok tt) × (is_single line ≡ true) × (sheet_check (take n after) ≡ Ok tt)
  made_accepted after n (put m e) =
      let o = put-opened m e in
      let s = put-size m e in
      (o.1, o.2, ap sheet_check (put_front m e) ∙ put-accepted sheet line o.1 o.2 (omega (arith, s.0, s.2)))
  made_accepted after n (withdrawn m e) =
      let o = withdrawn-opened m e in
      (o.1, o.2, ap sheet_check (withdrawn-front m e) ∙ withdrawn-accepted sheet line o.1 o.2)

  -- the buffer has the room that it had, and holds what it held behind the new length, up to the old length too
  pub made_behind : (after : List ℕ) (n : ℕ) → Made buf used line after n → (length after ≡ length buf) × (n ≤ length buf) × (drop n after ≡ drop n buf)
  made_behind after n (put m e) = (put-room m e, (put-size m e).1, put-behind m e)
  made_behind after n (withdrawn m e) = (withdrawn-room m e, omega (arith, (withdrawn-size m e).1, (withdrawn-opened m e).0), withdrawn-behind m e)

  -- every question but that of the edited first letter and name is answered as before
  pub made_others : (after : List ℕ) (n : ℕ) → Made buf used line after n → (letter : ℕ) (name : List ℕ) → (key_of letter name ≡ key (entry_of line) → ⊥) → Alike sheet (take n after) letter name
  made_others after n (put m e) letter name d =
      let o = put-opened m e in
      subst (λ (t : List ℕ). Alike sheet t letter name) (sym (put_front m e)) (put_others sheet line o.1 o.2 letter name d)
  made_others after n (withdrawn m e) letter name d =
      let o = withdrawn-opened m e in
      subst (λ (t : List ℕ). Alike sheet t letter name) (sym (withdrawn-front m e)) (withdrawn_others sheet line o.1 o.2 letter name d)

-- what is said of an accepted sheet in a buffer that is long enough, and a single form
opens : (buf : List ℕ) (used : ℕ) (line : List ℕ) → used ≤ length buf → sheet_check (take used buf) ≡ Ok tt → is_single line ≡ true → opening_of buf used line ≡ Ok tt
unfolding opening_of
opens buf used line h a l = rw (le-ltb _ _ h, a, l)

-- a line that is there can be withdrawn
withdraw_goes : (buf : List ℕ) (used : ℕ) (line : List ℕ) → opening_of buf used line ≡ Ok tt → (v : List ℕ)
    → reply (take used buf) (entry_of line).letter (entry_of line).name ≡ told v → withdraw_of buf used line ≡ Ok (length (withdrawn_text (take used buf) line))
unfolding withdraw_of reply
withdraw_goes buf used line o v t = rw (o, t)

-- a line can be put wherever there is room for its own bytes
pub put_goes : (buf : List ℕ) (used : ℕ) (line : List ℕ) → used ≤ length buf → sheet_check (take used buf) ≡ Ok tt → is_single line ≡ true
    → used + length line ≤ length buf → used + length line ≤ sheet_limit → put_of buf used line ≡ Ok (length (put_text (take used buf) line))
unfolding put_of
put_goes buf used line h a l r t =
    let k : length (put_text (take used buf) line) ≤ used + length line = omega (arith, put-length (take used buf) line a l, length-take-le used buf h) in
    rw (opens buf used line h a l, le-leb (length (put_text (take used buf) line)) (length buf) (omega arith), le-leb (length (put_text (take used buf) line)) sheet_limit (omega arith))

-- freed length serves later puts: after a line was withdrawn any single form that is no longer than what was freed can be put, however full the
-- buffer was
pub freed_serves : (buf : List ℕ) (used : ℕ) (line next : List ℕ) (n : ℕ) → withdraw_of buf used line ≡ Ok n → is_single next ≡ true → length next ≤ used - n
    → put_of (withdraw_left buf used line) n next ≡ Ok (length (put_text (withdrawn_text (take used buf) line) next))
freed_serves buf used line next n e l h =
    let o = withdrawn-opened buf used line n e in
    let s = withdrawn-size buf used line n e in
    let f = withdrawn-front buf used line n e in
    let k : length (take used buf) ≡ used = length-take-le used buf o.0 in
    let r = put_goes (withdraw_left buf used line) n next (omega (arith, withdrawn-room buf used line n e, s.1, o.0))
    (ap sheet_check f ∙ withdrawn-accepted (take used buf) line o.1 o.2) l
    (omega (arith, withdrawn-room buf used line n e, s.1, o.0)) (omega (arith, s.1, accepted-short (take used buf) o.1, k)) in
    r ∙ ap (λ (t : List ℕ). Ok (length (put_text t next))) f

-- a line that was not there, put and then withdrawn: the old length, and the old sheet byte for byte
pub put_then_withdrawn : (buf : List ℕ) (used : ℕ) (line : List ℕ) (n : ℕ) → put_of buf used line ≡ Ok n
    → reply (take used buf) (entry_of line).letter (entry_of line).name ≡ unknown
    → (withdraw_of (put_left buf used line) n line ≡ Ok used) × (take used (withdraw_left (put_left buf used line) n line) ≡ take used buf)
put_then_withdrawn buf used line n e u =
    let o = put-opened buf used line n e in
    let s = put-size buf used line n e in
    let f = put_front buf used line n e in
    let b = put_left buf used line in
    let w : withdrawn_text (take n b) line ≡ take used buf = ap (λ (t : List ℕ). withdrawn_text t line) f ∙ put-withdrawn (take used buf) line o.1 o.2 u in
    let g : withdraw_of b n line ≡ Ok used =
    goes b n line (omega (arith, put-room buf used line n e, s.1)) (ap sheet_check f ∙ put-accepted (take used buf) line o.1 o.2 (omega (arith, s.0, s.2))) o.2
    (ap (λ (t : List ℕ). reply t (entry_of line).letter (entry_of line).name) f ∙ put-told (take used buf) line o.1 o.2)
    ∙ ap Ok (ap length w ∙ length-take-le used buf o.0) in
    (g, withdrawn-front b n line used g ∙ w)
  where
    goes : (c : List ℕ) (m : ℕ) (l : List ℕ) → m ≤ length c → sheet_check (take m c) ≡ Ok tt → is_single l ≡ true
        → reply (take m c) (entry_of l).letter (entry_of l).name ≡ told (entry_of l).value → withdraw_of c m l ≡ Ok (length (withdrawn_text (take m c) l))
    goes c m l h a i t = withdraw_goes c m l (opens c m l h a i) (entry_of l).value t

-- the numbers: 4, 5 or 6, 11, then 12 or 13, and so the lowest of those that apply
lowest_by : (a d : Bool) (y : Result (Unit {0}) SheetFault) (c f : Bool) (r : Refusal) (w : Result ℕ Refusal) → 11 ≤ number r → written_numbers w ≡ lowest_numbers_of (cause_if f r)
    → written_numbers (answered_by (pick a (Err SheetTooLong) (or_else (by_sheet (pick d (Err sheets.TooLong) y)) (pick c (Ok tt) (Err NoSingleForm)))) w)
    ≡ lowest_numbers_of (cause_if a SheetTooLong ++ (cause_if d SheetTooLong ++ (fault_of y ++ (cause_if (not c) NoSingleForm ++ cause_if f r))))
lowest_by a d y c f r w h e = go a d y c
  where
    last : AtLeast 11 (cause_if f r)
    last = at f
      where
        at : (b : Bool) → AtLeast 11 (cause_if b r)
        at true = (h, tt)
        at false = tt

    least : (c : Bool) (n : ℕ) → n ≤ 11 → AtLeast n (cause_if (not c) NoSingleForm ++ cause_if f r)
    least c n k = at_least_if n (not c) NoSingleForm (cause_if f r) k (at_least_down n 11 (cause_if f r) k last)

    fault : (y : Result (Unit {0}) SheetFault) (c : Bool) → AtLeast 4 (fault_of y ++ (cause_if (not c) NoSingleForm ++ cause_if f r))
    fault (Ok _) c = least c 4 (omega arith)
    fault (Err sheets.TooLong) c = (omega arith, least c 4 (omega arith))
    fault (Err (sheets.NoForm at)) c = (omega arith, least c 4 (omega arith))
    fault (Err (sheets.NotAbove at)) c = (omega arith, least c 4 (omega arith))

    of-line : (c : Bool) → written_numbers (answered_by (pick c (Ok tt) (Err NoSingleForm)) w) ≡ lowest_numbers_of (cause_if (not c) NoSingleForm ++ cause_if f r)
    of-line true = e
    of-line false = sym (lead true NoSingleForm (cause_if f r) last)

    go : (a d : Bool) (y : Result (Unit {0}) SheetFault) (c : Bool)
        → written_numbers (answered_by (pick a (Err SheetTooLong) (or_else (by_sheet (pick d (Err sheets.TooLong) y)) (pick c (Ok tt) (Err NoSingleForm)))) w)
        ≡ lowest_numbers_of (cause_if a SheetTooLong ++ (cause_if d SheetTooLong ++ (fault_of y ++ (cause_if (not c) NoSingleForm ++ cause_if f r))))
    go true d y c = sym (lead true SheetTooLong (cause_if d SheetTooLong ++ (fault_of y ++ (cause_if (not c) NoSingleForm ++ cause_if f r))) (at_least_if 4 d SheetTooLong (fault_of y ++ (cause_if (not c) NoSingleForm ++ cause_if f r)) (omega arith) (fault y c)))
    go false true y c = sym (lead true SheetTooLong (fault_of y ++ (cause_if (not c) NoSingleForm ++ cause_if f r)) (fault y c))
    go false false (Ok _) c = of-line c
    go false false (Err sheets.TooLong) c = sym (lead true SheetTooLong (cause_if (not c) NoSingleForm ++ cause_if f r) (least c 4 (omega arith)))
    go false false (Err (sheets.NoForm at)) c = sym (lead true (SheetNoForm at) (cause_if (not c) NoSingleForm ++ cause_if f r) (least c 5 (omega arith)))
    go false false (Err (sheets.NotAbove at)) c = sym (lead true (SheetNotAbove at) (cause_if (not c) NoSingleForm ++ cause_if f r) (least c 6 (omega arith)))

module _ (buf : List ℕ) (used : ℕ) (line : List ℕ) where
  -- every cause that can refuse an edit before the line is looked for
  abbrev pub opening_causes : List Refusal → List Refusal
  opening_causes rest =
      cause_if (ltb (length buf) used) SheetTooLong
      ++ (cause_if (ltb sheet_limit (length (take used buf))) SheetTooLong
      ++ (fault_of (judged (take used buf) [] (starts_of (take used buf))) ++ (cause_if (not (is_single line)) NoSingleForm ++ rest)))

  pub put_lowest :
      written_numbers (put_of buf used line)
      ≡ lowest_numbers_of (opening_causes (cause_if (ltb (length buf) (length (put_text (take used buf) line)) || ltb sheet_limit (length (put_text (take used buf) line))) NoRoom))
  unfolding put_of opening_of sheet_check
  put_lowest =
      lowest_by (ltb (length buf) used) (ltb sheet_limit (length (take used buf))) (judged (take used buf) [] (starts_of (take used buf))) (is_single line)
      (ltb (length buf) (length (put_text (take used buf) line)) || ltb sheet_limit (length (put_text (take used buf) line))) NoRoom (fitting (length (put_text (take used buf) line)) (length buf)) (omega arith)
      (fits (length (put_text (take used buf) line)) (length buf))
    where
      turned : (x y : ℕ) (b : Bool) → leb x y ≡ b → ltb y x ≡ not b
      turned x y true e = le-ltb y x (leb-true x y e)
      turned x y false e = lt-ltb y x (leb-false x y e)

      fits : (size room : ℕ) → written_numbers (fitting size room) ≡ lowest_numbers_of (cause_if (ltb room size || ltb sheet_limit size) NoRoom)
      fits size room = by (leb size room) (leb size sheet_limit) refl refl
        where
          by : (b c : Bool) → leb size room ≡ b → leb size sheet_limit ≡ c
              → written_numbers (pick (b && c) (Ok size) (Err NoRoom)) ≡ lowest_numbers_of (cause_if (ltb room size || ltb sheet_limit size) NoRoom)
          by true true p q = rw (turned size room true p, turned size sheet_limit true q)
          by true false p q = rw (turned size room true p, turned size sheet_limit false q)
          by false c p q = rw (turned size room false p)

  pub withdraw-lowest :
      written_numbers (withdraw_of buf used line) ≡ lowest_numbers_of (opening_causes (cause_if (is_unknown (reply_in (lines_of (take used buf)) (key (entry_of line)))) NothingToWithdraw))
  unfolding withdraw_of opening_of sheet_check
  withdraw-lowest =
      lowest_by (ltb (length buf) used) (ltb sheet_limit (length (take used buf))) (judged (take used buf) [] (starts_of (take used buf))) (is_single line)
      (is_unknown (reply_in (lines_of (take used buf)) (key (entry_of line)))) NothingToWithdraw
      (withdrawing (reply_in (lines_of (take used buf)) (key (entry_of line))) (length (withdrawn_text (take used buf) line))) (omega arith)
      (there (reply_in (lines_of (take used buf)) (key (entry_of line))))
    where
      there : (x : Reply) → written_numbers (withdrawing x (length (withdrawn_text (take used buf) line))) ≡ lowest_numbers_of (cause_if (is_unknown x) NothingToWithdraw)
      there unknown = refl
      there (told v) = refl

  -- after a refusal all bytes stay
  pub put_refused : (r : Refusal) → put_of buf used line ≡ Err r → put_left buf used line ≡ buf
  unfolding put_left
  put_refused r e = ap (λ (w : Result ℕ Refusal). output_by w (put_text (take used buf) line) buf) e

  pub withdraw_refused : (r : Refusal) → withdraw_of buf used line ≡ Err r → withdraw_left buf used line ≡ buf
  unfolding withdraw_left
  withdraw_refused r e = ap (λ (w : Result ℕ Refusal). output_by w (withdrawn_text (take used buf) line) buf) e

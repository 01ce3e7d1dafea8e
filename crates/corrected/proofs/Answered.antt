-- What the edits hand back and leave, from where the line stands. The proofs of entry.rt cite these. Assumes nothing.
use Rattle.std.specs.Prelude.{Err, Ok}
use Prim.Native.Nat.{ℕ, ◌+◌, ◌-◌, ◌≤◌, ◌<◌}
use native.Mathlib.Omega.{arith}
use mathlib.Core.Path.{◌≡◌, refl, sym, ap, ◌∙◌}
use mathlib.Core.Bool.{Bool, true, false}
use mathlib.Core.List.{List, [], ◌++◌}
use lib.ListN.{length, take, drop, length-append, length-drop}
use lib.Seq.{take-take, length-take-le}
use lib.Dec.{leb, ltb}
use borrow.Author.Tests.{lt-ltb, le-ltb, lt-leb, le-leb, ltb-false}
use Rattle.runs.specs.Runs.{pick}
use Rattle.refusals.specs.Refusals.{output_by}
use Rattle.refusals.specs.declared.Refusal.{Refusal}
use Rattle.refusals.specs.declared.Refusal.TheVariants.{SheetTooLong, NothingToWithdraw, NoRoom}
use Rattle.sheet.specs.Limits.{sheet_limit}
use Rattle.sheet.specs.Forms.{entry_of, written, key}
use Rattle.sheet.specs.Lines.{lines_of, sheet_check}
use Rattle.sheet.specs.Replies.{Reply, unknown, told, reply_in}
use Rattle.sheet.specs.Inputs.{by_sheet, or_else}
use Rattle.corrected.specs.Sets.{put_text, withdrawn_text}
use Rattle.corrected.specs.Answers.{of_line, opening_of, answered_by, withdrawing, put_of, withdraw_of, put_left, withdraw_left}
use Rattle.corrected.specs.Spans.{Spanned}
use Rattle.corrected.specs.declared.place.Span.{Span}
use Rattle.corrected.proofs.Spliced.{drop-front}

module _ (buf : List ℕ) (used : ℕ) (line : List ℕ) where
  pub beyond : length buf < used → opening_of buf used line ≡ Err SheetTooLong
  unfolding opening_of
  beyond h = rw (lt-ltb _ _ h)

  pub within : used ≤ length buf → opening_of buf used line ≡ or_else (by_sheet (sheet_check (take used buf))) (of_line line)
  unfolding opening_of
  within h = rw (le-ltb _ _ h)

  -- a refusal before the line is looked for
  module _ (r : Refusal) (e : opening_of buf used line ≡ Err r) where
    pub put_refused : (Err r ≡ put_of buf used line) × (buf ≡ put_left buf used line)
    unfolding put_of put_left
    put_refused = (sym (rw e), sym (rw e))

    pub withdraw_refused : (Err r ≡ withdraw_of buf used line) × (buf ≡ withdraw_left buf used line)
    unfolding withdraw_of withdraw_left
    withdraw_refused = (sym (rw e), sym (rw e))

  -- where the line stands
  module _ (e : opening_of buf used line ≡ Ok tt) (w : written (entry_of line) ≡ line) (r : Span) (k : Spanned (take used buf) (key (entry_of line)) r) where
    pub short : used ≤ length buf
    unfolding opening_of
    short = by (ltb (length buf) used) refl
      where
        by : (b : Bool) → ltb (length buf) used ≡ b → used ≤ length buf
        by true h = let z : Err SheetTooLong ≡ (Ok tt) = sym (ap (λ (b : Bool). pick b (Err SheetTooLong) (or_else (by_sheet (sheet_check (take used buf))) (of_line line))) h) ∙ e in let y : ◌≡◌ {A = ℕ} 0 1 = cc in absurd (omega arith)
        by false h = ltb-false _ _ h

    sheet_long : length (take used buf) ≡ used
    sheet_long = length-take-le used buf short

    pub inside : r.to ≤ used
    inside = omega (arith, k.inside, sheet_long)

    front : take r.from (take used buf) ≡ take r.from buf
    front = take-take r.from used buf (omega (arith, k.ordered, inside))

    rest : drop r.to (take used buf) ≡ take (used - r.to) (drop r.to buf)
    rest = drop-front r.to used buf

    front_long : length (take r.from buf) ≡ r.from
    front_long = length-take-le r.from buf (omega (arith, k.ordered, inside, short))

    rest_long : length (take (used - r.to) (drop r.to buf)) ≡ used - r.to
    rest_long = length-take-le (used - r.to) (drop r.to buf) (omega (arith, length-drop r.to buf, short))

    abbrev put_size : ℕ
    put_size = r.from + length line + (used - r.to)

    put_is : put_text (take used buf) line ≡ take r.from buf ++ (line ++ take (used - r.to) (drop r.to buf))
    unfolding put_text
    put_is =
        k.put (entry_of line) refl
        ∙ ap (λ (x : List ℕ). take r.from (take used buf) ++ (x ++ drop r.to (take used buf))) w
        ∙ ap (λ (x : List ℕ). x ++ (line ++ drop r.to (take used buf))) front
        ∙ ap (λ (x : List ℕ). take r.from buf ++ (line ++ x)) rest

    put_long : length (put_text (take used buf) line) ≡ put_size
    put_long =
        let x = take (used - r.to) (drop r.to buf) in
        omega (arith, ap length put_is, length-append (take r.from buf) (line ++ x), length-append line x, front_long, rest_long)

    pub put-none : length buf < put_size → (Err NoRoom ≡ put_of buf used line) × (buf ≡ put_left buf used line)
    unfolding put_of put_left
    put-none h =
        let l : leb (length (put_text (take used buf) line)) (length buf) ≡ false = lt-leb (length (put_text (take used buf) line)) (length buf) (omega (arith, put_long)) in
        (sym (rw (e, l)), sym (rw (e, l)))

    pub put-over : put_size ≤ length buf → sheet_limit < put_size → (Err NoRoom ≡ put_of buf used line) × (buf ≡ put_left buf used line)
    unfolding put_of put_left
    put-over h g =
        let l : leb (length (put_text (take used buf) line)) (length buf) ≡ true = le-leb (length (put_text (take used buf) line)) (length buf) (omega (arith, put_long)) in
        let m : leb (length (put_text (take used buf) line)) sheet_limit ≡ false = lt-leb (length (put_text (take used buf) line)) sheet_limit (omega (arith, put_long)) in
        (sym (rw (e, l, m)), sym (rw (e, l, m)))

    pub put_done : put_size ≤ length buf → put_size ≤ sheet_limit → (new : List ℕ)
        → new ≡ (take r.from buf ++ (line ++ take (used - r.to) (drop r.to buf))) ++ drop put_size buf
        → (Ok put_size ≡ put_of buf used line) × (new ≡ put_left buf used line)
    unfolding put_of put_left
    put_done h g new n =
        let l : leb (length (put_text (take used buf) line)) (length buf) ≡ true = le-leb (length (put_text (take used buf) line)) (length buf) (omega (arith, put_long)) in
        let m : leb (length (put_text (take used buf) line)) sheet_limit ≡ true = le-leb (length (put_text (take used buf) line)) sheet_limit (omega (arith, put_long)) in (
          ap Ok (sym put_long) ∙ sym (rw (e, l, m)),
          n ∙ ap (λ (x : List ℕ). x ++ drop put_size buf) (sym put_is) ∙ ap (λ (x : ℕ). put_text (take used buf) line ++ drop x buf) (sym put_long) ∙ sym (rw (e, l, m)),
        )

    abbrev gone_size : ℕ
    gone_size = r.from + (used - r.to)

    gone_is : withdrawn_text (take used buf) line ≡ take r.from buf ++ take (used - r.to) (drop r.to buf)
    unfolding withdrawn_text
    gone_is =
        k.gone ∙ ap (λ (x : List ℕ). x ++ drop r.to (take used buf)) front ∙ ap (λ (x : List ℕ). take r.from buf ++ x) rest

    gone_long : length (withdrawn_text (take used buf) line) ≡ gone_size
    gone_long =
        omega (arith, ap length gone_is, length-append (take r.from buf) (take (used - r.to) (drop r.to buf)), front_long, rest_long)

    pub withdraw_none : r.to ≤ r.from → (Err NothingToWithdraw ≡ withdraw_of buf used line) × (buf ≡ withdraw_left buf used line)
    unfolding withdraw_of withdraw_left
    withdraw_none h =
        let z : r.from ≡ r.to = omega (arith, k.ordered) in
        let u = k.lone z in
        (sym (rw (e, u)), sym (rw (e, u)))

    pub withdraw_done : r.from < r.to → (new : List ℕ)
        → new ≡ (take r.from buf ++ ([] ++ take (used - r.to) (drop r.to buf))) ++ drop (r.from + 0 + (used - r.to)) buf
        → (Ok gone_size ≡ withdraw_of buf used line) × (new ≡ withdraw_left buf used line)
    unfolding withdraw_of withdraw_left
    withdraw_done h new n = by (reply_in (lines_of (take used buf)) (key (entry_of line))) refl
      where
        by : (x : Reply) → reply_in (lines_of (take used buf)) (key (entry_of line)) ≡ x
            → (Ok gone_size ≡ answered_by (opening_of buf used line) (withdrawing (reply_in (lines_of (take used buf)) (key (entry_of line))) (length (withdrawn_text (take used buf) line))))
            × (new ≡ output_by (answered_by (opening_of buf used line) (withdrawing (reply_in (lines_of (take used buf)) (key (entry_of line))) (length (withdrawn_text (take used buf) line)))) (withdrawn_text (take used buf) line) buf)
        by unknown u = absurd (k.held h u)
        by (told v) u =
            let z : r.from + 0 + (used - r.to) ≡ gone_size = omega arith in (
              ap Ok (sym gone_long) ∙ sym (rw (e, u)),
              n ∙ ap (λ (x : ℕ). (take r.from buf ++ take (used - r.to) (drop r.to buf)) ++ drop x buf) z
                  ∙ ap (λ (x : List ℕ). x ++ drop gone_size buf) (sym gone_is) ∙ ap (λ (x : ℕ). withdrawn_text (take used buf) line ++ drop x buf) (sym gone_long) ∙ sym (rw (e, u)),
            )

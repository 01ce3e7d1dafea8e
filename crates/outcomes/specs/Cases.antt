-- The cases of document 01 ("Readings worked by hand") that are marked *, and those of document 02 (b) and (h), one line each: what is
-- asked, and its outcome. Assumes nothing.
use Rattle.std.specs.Prelude.{ℕ, true, false, List, [], ◌∷◌, ◌++◌}
use Rattle.sheet.specs.Forms.{written}
use Rattle.tables.specs.declared.origins.Origin.TheVariants.{Tatsam, Tadbhav, Aagantuk}
use Rattle.origin.specs.Decisions.{by_mark, by_stem, by_word, sure, decided, no_evidence}
use Rattle.origin.specs.declared.OriginDecision.{OriginDecision}
use Rattle.origin.specs.declared.OriginSource.TheVariants.{Override, Kosha, Heuristic}
use Rattle.ranking.specs.declared.AffixKind.TheVariants.{CaseMarker, Particle}
use Rattle.outcomes.specs.Words.{ghar, gharle, le, nihshulk, shulk, nir, nis, amanav, manav, a, asaphal, saphal, khairaheko, nakhairaheko, khai, nakhai, khanu, rahanu, gariraheko, gari, garnu, garanu, listing, gharkota, gharko, ta, ko, gharl, gharat, gharatire, tira, re, shared_listing, twice_listing, kriti, kritile, table_listing, verb_listing, guest_listing}
use Rattle.outcomes.specs.Outcomes.{Question, prints, readings, progressive, decompose, Suffix, Row, Outcome, text, list, form, no_form, parts}

-- a line of a sheet, with its 0A
abbrev pub line_of : ℕ → List ℕ → List ℕ → List ℕ
line_of letter name value = written (record { letter = letter; name = name; value = value })

-- (w NAME (LETTERS)), by the letters w, h, wh and hv
abbrev pub word : List ℕ → List ℕ
word name = line_of 0x77 name (0x77 ∷ [])

abbrev pub head : List ℕ → List ℕ
head name = line_of 0x77 name (0x68 ∷ [])

abbrev pub both : List ℕ → List ℕ
both name = line_of 0x77 name (0x77 ∷ 0x68 ∷ [])

abbrev pub verb : List ℕ → List ℕ
verb name = line_of 0x77 name (0x68 ∷ 0x76 ∷ [])

-- (l LINK (INFINITIVE))
abbrev pub link : List ℕ → List ℕ → List ℕ
link name infinitive = line_of 0x6C name infinitive

-- a headword with the tag t
abbrev pub tagged : List ℕ → List ℕ
tagged name = line_of 0x77 name (0x68 ∷ 0x74 ∷ [])

-- a known headword with the tag a
abbrev pub guest : List ℕ → List ℕ
guest name = line_of 0x77 name (0x77 ∷ 0x68 ∷ 0x61 ∷ [])

-- a row of the list, of whose root this is decided
abbrev pub row_by : OriginDecision → List ℕ → List ℕ → List (List ℕ) → List Suffix → ℕ → Row
row_by decision stem root prefixes suffixes score =
    record { stem = stem; root = root; prefixes = prefixes; suffixes = suffixes; score = score; decision = decision }

-- one of whose root's origin nothing is known: Deshaj
abbrev pub row : List ℕ → List ℕ → List (List ℕ) → List Suffix → ℕ → Row
row = row_by no_evidence

abbrev pub case_ko : Suffix
case_ko = record { label = ko; kind = CaseMarker; is_shared = false }

abbrev pub case_le : Suffix
case_le = record { label = le; kind = CaseMarker; is_shared = false }

-- the same suffixes, and others, with their first letter shared
abbrev pub shared_le : Suffix
shared_le = record { label = le; kind = CaseMarker; is_shared = true }

abbrev pub shared_tira : Suffix
shared_tira = record { label = tira; kind = CaseMarker; is_shared = true }

abbrev pub shared_re : Suffix
shared_re = record { label = re; kind = Particle; is_shared = true }

pub record Case : Type 0 where
  pub asked : Question
  pub outcome : Outcome

abbrev pub case : Question → Outcome → Case
case q o = record { asked = q; outcome = o }

unfoldable pub cases : List Case
cases =
    case (prints (gharle ++ 0x0A ∷ both ghar)) (text listing) ∷
    case (readings gharle (both ghar)) (list (row ghar ghar [] (case_le ∷ []) 279 ∷ [])) ∷
    case (readings gharle (both ghar ++ word gharle)) (list (row ghar ghar [] (case_le ∷ []) 339 ∷ row gharle gharle [] [] 104 ∷ [])) ∷
    case (readings nihshulk (head shulk)) (list (row nihshulk shulk (nir ∷ []) [] 188 ∷ row nihshulk shulk (nis ∷ []) [] 188 ∷ [])) ∷
    case (readings amanav (word manav)) (list (row amanav manav (a ∷ []) [] 135 ∷ [])) ∷
    case (readings asaphal (word saphal)) (list []) ∷
    case (readings khairaheko (verb khanu ++ verb rahanu)) (list (row_by (decided Tadbhav Heuristic by_mark) khairaheko khairaheko [] [] 8 ∷ [])) ∷
    case (progressive khairaheko (verb khanu ++ verb rahanu)) (form khai false khanu) ∷
    case (progressive nakhairaheko (verb khanu ++ verb rahanu)) (form nakhai true khanu) ∷
    case (progressive gariraheko (link gari garnu ++ verb garanu ++ verb rahanu)) no_form ∷
    case (decompose gharkota (word ghar ++ word gharko)) (parts ghar [] (ta ∷ ko ∷ [])) ∷
    case (readings [] []) (list []) ∷
    case (prints (gharle ++ 0x0A ∷ (both ghar ++ word gharl))) (text shared_listing) ∷
    case (readings gharle (both ghar ++ word gharl)) (list (row ghar ghar [] (case_le ∷ []) 279 ∷ row gharl gharl [] (shared_le ∷ []) 129 ∷ [])) ∷
    case (prints (gharatire ++ 0x0A ∷ word gharat)) (text twice_listing) ∷
    case (readings gharatire (word gharat)) (list (row gharat gharat [] (shared_tira ∷ shared_re ∷ []) 146 ∷ [])) ∷
    case (readings gharko (tagged ghar ++ word gharko))
    (list (row_by (decided Tatsam Kosha by_word) ghar ghar [] (case_ko ∷ []) 239 ∷ row_by (decided Tatsam Kosha by_stem) gharko gharko [] [] 104 ∷ [])) ∷
    case (readings kritile (word kriti)) (list (row_by (decided Tatsam Override sure) kriti kriti [] (case_le ∷ []) 131 ∷ [])) ∷
    case (prints (kritile ++ 0x0A ∷ word kriti)) (text table_listing) ∷
    case (prints (khairaheko ++ 0x0A ∷ (verb khanu ++ verb rahanu))) (text verb_listing) ∷
    case (readings gharle (guest ghar)) (list (row_by (decided Aagantuk Kosha by_word) ghar ghar [] (case_le ∷ []) 279 ∷ [])) ∷
    case (prints (gharle ++ 0x0A ∷ guest ghar)) (text guest_listing) ∷
    []

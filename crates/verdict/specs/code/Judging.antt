-- How the code judges: by each row's form and that of the row right before it, which is the statement's where the row is a label's. Assumes
-- nothing: these are definitions.
use Rattle.std.specs.Prelude.{ℕ, zero, suc, ◌/◌, min, Bool, ◌&&◌, ◌||◌, cond, List, [], ◌∷◌, eqb, length, get_or, drop}
use Rattle.form_numbers.specs.Statements as form_number
use Rattle.forms.specs.RowWords.{row_numbers}
use Rattle.verdict.specs.declared.Verdict.{Verdict}
use Rattle.verdict.specs.declared.Verdict.TheVariants.{Passes, NotSupported}

-- a row of this form after one of form `before` is not supported
abbrev pub unsupported : ℕ → ℕ → Bool
unsupported before form =
    eqb form form_number.while_loop || eqb form form_number.bare_loop || eqb form form_number.guard || eqb form form_number.block_is
    || eqb form form_number.label && (eqb before form_number.next_statement || eqb before form_number.exit_statement || eqb before form_number.null_statement)

-- of rows of these forms, the first being row i and the form of the one before it `before`
unfoldable pub verdict_from : ℕ → ℕ → List ℕ → Verdict
verdict_from before i [] = Passes
verdict_from before i (form ∷ forms) = cond (unsupported before form) (NotSupported i) (verdict_from form (suc i) forms)

-- the forms of the first n rows of a tree table
unfoldable pub forms_in : ℕ → List ℕ → List ℕ
forms_in zero table = []
forms_in (suc n) table = get_or table 0 0 ∷ forms_in n (drop row_numbers table)

unfoldable pub verdict_of : List ℕ → ℕ → Verdict
verdict_of table rows = verdict_from 0 0 (forms_in (min rows (length table / row_numbers)) table)

-- Which statement a label leads (01's table: "[label :]", and "leading label without its colon" for its row). Assumes nothing: these are
-- definitions, and proofs/Labels.antt has the proof.
use Rattle.std.specs.Prelude.{◌<◌, ◌≡◌, List, [], ◌∷◌}
use Rattle.form_numbers.specs.Statements as form
use Rattle.forms.specs.Tree.{Row}

-- The label r leads the statement s whose row stands right before its own: s has rows inside it, of which the one right after it is the
-- first, and begins at its label.
abbrev pub Leads : Row → Row → Type 0
Leads r s = (1 < s.rows) × (r.first ≡ s.first)

-- each label among the rows after s leads the row right before it
abbrev pub EachLeads : Row → List Row → Type 0
EachLeads s [] = Unit {0}
EachLeads s (r ∷ l) = (r.form ≡ form.label → Leads r s) × EachLeads r l

-- of all the rows: the first is no label
abbrev pub LabelsLead : List Row → Type 0
LabelsLead [] = Unit {0}
LabelsLead (r ∷ l) = (r.form ≡ form.label → ⊥) × EachLeads r l

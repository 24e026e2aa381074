-- The relations and the operators on truths (000, 9.2), and where one side decides (01, "Folding"). Assumes nothing.
use Rattle.std.specs.Prelude.{Bool, true, false, not, ◌&&◌, ◌||◌, ℤ, pos}
use Rattle.std.specs.Int.Signed.{lt_z, le_z}
use Rattle.folding.specs.declared.Relation.{Relation}
use Rattle.folding.specs.declared.Relation.TheVariants.{Equal, Unequal, Less, LessEqual, Greater, GreaterEqual}
use Rattle.folding.specs.declared.Logic.{Logic}
use Rattle.folding.specs.declared.Logic.TheVariants.{And, Or, Nand, Nor, Xor, Xnor}

-- the six relations, on integers
abbrev pub relation_of : Relation → ℤ → ℤ → Bool
relation_of Equal a b = le_z a b && le_z b a
relation_of Unequal a b = lt_z a b || lt_z b a
relation_of Less a b = lt_z a b
relation_of LessEqual a b = le_z a b
relation_of Greater a b = lt_z b a
relation_of GreaterEqual a b = le_z b a

-- all six relations hold on two truths, false below true (000, 9.2.3): a truth's place in that order
abbrev pub truth_place : Bool → ℤ
truth_place false = pos 0
truth_place true = pos 1

-- the six operators on truths
abbrev pub logic_of : Logic → Bool → Bool → Bool
logic_of And t u = t && u
logic_of Or t u = t || u
logic_of Nand t u = not (t && u)
logic_of Nor t u = not (t || u)
logic_of Xor t u = t && not u || not t && u
logic_of Xnor t u = t && u || not t && not u

-- "`and`, `nand`, `or`, `nor` skip the right side where the left decides"
abbrev pub decides : Logic → Bool → Bool
decides And t = not t
decides Or t = t
decides Nand t = not t
decides Nor t = t
decides Xor t = false
decides Xnor t = false

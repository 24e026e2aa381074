-- Which operator or sign an element spells, by its kind. Assumes nothing.
use Rattle.std.specs.Prelude.{ℕ, cond, eqb}
use Rattle.spelled.specs.Spelled.{kind_of}
use Rattle.integers.specs.declared.Arithmetic.TheVariants.{Add, Subtract, Multiply, Divide, Remainder, Modulo, Power}
use Rattle.folding.specs.declared.Relation.TheVariants.{Equal, Unequal, Less, LessEqual, Greater, GreaterEqual}
use Rattle.folding.specs.declared.Logic.TheVariants.{And, Or, Nand, Nor, Xor, Xnor}
use Rattle.folding.specs.declared.Operator.{Operator}
use Rattle.folding.specs.declared.Operator.TheVariants.{Arithmetic, Relation, Logic, Join}
use Rattle.folding.specs.declared.Sign.{Sign}
use Rattle.folding.specs.declared.Sign.TheVariants.{Plus, Minus, Absolute, Not}

-- the binary operators; the last is `&`
unfoldable pub operator_of : ℕ → Operator
operator_of k =
    (cond (eqb k (kind_of "**")) (Arithmetic Power)
    (cond (eqb k (kind_of "*")) (Arithmetic Multiply)
    (cond (eqb k (kind_of "/")) (Arithmetic Divide)
    (cond (eqb k (kind_of "mod")) (Arithmetic Modulo)
    (cond (eqb k (kind_of "rem")) (Arithmetic Remainder)
    (cond (eqb k (kind_of "+")) (Arithmetic Add)
    (cond (eqb k (kind_of "-")) (Arithmetic Subtract)
    (cond (eqb k (kind_of "=")) (Relation Equal)
    (cond (eqb k (kind_of "/=")) (Relation Unequal)
    (cond (eqb k (kind_of "<")) (Relation Less)
    (cond (eqb k (kind_of "<=")) (Relation LessEqual)
    (cond (eqb k (kind_of ">")) (Relation Greater)
    (cond (eqb k (kind_of ">=")) (Relation GreaterEqual)
    (cond (eqb k (kind_of "and")) (Logic And)
    (cond (eqb k (kind_of "or")) (Logic Or)
    (cond (eqb k (kind_of "nand")) (Logic Nand)
    (cond (eqb k (kind_of "nor")) (Logic Nor)
    (cond (eqb k (kind_of "xor")) (Logic Xor)
    (cond (eqb k (kind_of "xnor")) (Logic Xnor)
    Join)))))))))))))))))))

-- the signs `-`, abs and not; the last is `+`
unfoldable pub sign_of : ℕ → Sign
sign_of k =
    (cond (eqb k (kind_of "-")) Minus
    (cond (eqb k (kind_of "abs")) Absolute
    (cond (eqb k (kind_of "not")) Not
    Plus)))

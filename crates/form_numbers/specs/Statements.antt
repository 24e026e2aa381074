-- The numbers of 01's table of forms ("Forms of the strict reading") for statements and for what stands on them, each under its name. Assumes nothing.
use Rattle.std.specs.Prelude.{ℕ}

abbrev pub while_loop : ℕ
while_loop = 19

abbrev pub bare_loop : ℕ
bare_loop = 20

abbrev pub next_statement : ℕ
next_statement = 21

abbrev pub exit_statement : ℕ
exit_statement = 22

abbrev pub null_statement : ℕ
null_statement = 23

abbrev pub label : ℕ
label = 30

abbrev pub guard : ℕ
guard = 32

abbrev pub block_is : ℕ
block_is = 33

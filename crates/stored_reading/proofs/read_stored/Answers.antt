-- Zeros, or the rows. Assumes nothing.
use native.Mathlib.Omega.{arith}
use borrow.Author.Rules.{rules}
use Rattle.stored.specs.code.Promises.{Bytes}
use Rattle.stored_reading.proofs.Whole.{there_from, room_from, from_three, permit_none, permit_short, permit_read}
use Rattle.stored_reading.proofs.read_stored.Goals as goal

pub returns-then-rows-c : goal.returns-then-rows-c
returns-then-rows-c c = let a = c.args in
    let b : Bytes a.s.now = λ i. omega (arith, c.type_inv.s i) in
    permit_short a.s.now c.examine.result c.in-Some.from c.in-Some.c a.items.now c.clear.new.t b c.in-Some.is c.examine.ensures (omega arith) c.clear.ensures

pub fill-requires : goal.fill-requires
fill-requires c = record { s_value = search there_from; s_in_bounds = search room_from }

pub overflow_sub-result : goal.overflow_sub-result
overflow_sub-result c = search from_three

pub returns-in_default : goal.returns-in_default
returns-in_default c = let a = c.args in
    let b : Bytes a.s.now = λ i. omega (arith, c.type_inv.s i) in
    permit_none a.s.now c.examine.result a.items.now c.clear.new.t b (search rules) c.examine.ensures c.clear.ensures

pub returns : goal.returns
returns c = let a = c.args in
    let b : Bytes a.s.now = λ i. omega (arith, c.type_inv.s i) in
    permit_read a.s.now c.examine.result c.in-Some.from c.in-Some.c a.items.now c.clear.new.t c.fill.new.t b c.in-Some.is c.examine.ensures (omega arith) c.fill.ensures c.clear.ensures

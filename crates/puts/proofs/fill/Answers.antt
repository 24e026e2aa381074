-- The invariant: the lines so far stand in the buffer, each whole, and as many of the rest fit as are still to come. Assumes nothing.
use Rattle.std.proofs.Common.{◌≡◌, refl, arith}
use Rattle.puts.proofs.Lines.{begun, line_more, stopped, finished}
use Rattle.puts.proofs.fill.Goals as goal

pub loop-i-init : goal.loop-i-init
loop-i-init g c = record {
  within = omega arith;
  so_far = begun (g.L.Listing.line c.args.listing.now) c.args.from c.args.to c.args.out.now;
}

pub returns-then-out-r : goal.returns-then-out-r
returns-then-out-r g c =
    stopped c.args.to c.loop-i.invariant.so_far c.loop-i-test.true c.put_line-r.ensures c.if-out-r.true refl c.ended.ensures.value c.ended.ensures.out_after

pub loop-i-preserved : goal.loop-i-preserved
loop-i-preserved g c = record {
  within = omega arith;
  so_far = line_more c.loop-i.invariant.so_far c.loop-i-test.true c.put_line-r.ensures c.if-out-r.false;
}

pub returns : goal.returns
returns g c =
    let e : c.max.result ≡ c.loop-i.i = omega arith in
    finished c.args.to c.loop-i.invariant.so_far c.loop-i-test.false refl (rw e at c.ended-2.ensures.value) c.ended-2.ensures.out_after

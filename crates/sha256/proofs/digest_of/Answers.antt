-- `sha256::digest_of` meets its contract.
use native.Mathlib.Omega.{arith}
use Rattle.sha256.proofs.Holding.{five_made}
use Rattle.sha256.proofs.digest_of.Goals as goal

pub update-s1-requires : goal.update-s1-requires
update-s1-requires c =
    (omega (arith, c.requires.0, c.requires.1, c.start-s0.ensures.count), omega (arith, c.requires.0, c.requires.1, c.start-s0.ensures.count))

pub update-s2-requires : goal.update-s2-requires
update-s2-requires c =
    let p1 = c.update-s1.ensures in
    (omega (arith, c.requires.0, c.requires.1, c.start-s0.ensures.count, p1.size, p1.count), omega (arith, c.requires.0, c.requires.1, c.start-s0.ensures.count, p1.size, p1.count))

pub update-s3-requires : goal.update-s3-requires
update-s3-requires c =
    let p2 = c.update-s2.ensures in
    let p1 = c.update-s1.ensures in
    (omega (arith, c.requires.0, c.requires.1, c.start-s0.ensures.count, p2.size, p2.count, p1.size, p1.count), omega (arith, c.requires.0, c.requires.1, c.start-s0.ensures.count, p2.size, p2.count, p1.size, p1.count))

pub update-s4-requires : goal.update-s4-requires
update-s4-requires c =
    let p3 = c.update-s3.ensures in
    let p2 = c.update-s2.ensures in
    let p1 = c.update-s1.ensures in
    (omega (arith, c.requires.0, c.requires.1, c.start-s0.ensures.count, p3.size, p3.count, p2.size, p2.count, p1.size, p1.count), omega (arith, c.requires.0, c.requires.1, c.start-s0.ensures.count, p3.size, p3.count, p2.size, p2.count, p1.size, p1.count))

pub update-s5-requires : goal.update-s5-requires
update-s5-requires c =
    let p4 = c.update-s4.ensures in
    let p3 = c.update-s3.ensures in
    let p2 = c.update-s2.ensures in
    let p1 = c.update-s1.ensures in
    (omega (arith, c.requires.0, c.requires.1, c.start-s0.ensures.count, p4.size, p4.count, p3.size, p3.count, p2.size, p2.count, p1.size, p1.count), omega (arith, c.requires.0, c.requires.1, c.start-s0.ensures.count, p4.size, p4.count, p3.size, p3.count, p2.size, p2.count, p1.size, p1.count))

pub finish-requires : goal.finish-requires
finish-requires c =
    let p5 = c.update-s5.ensures in
    let p4 = c.update-s4.ensures in
    let p3 = c.update-s3.ensures in
    let p2 = c.update-s2.ensures in
    let p1 = c.update-s1.ensures in
    (omega (arith, c.requires.0, c.requires.1, c.start-s0.ensures.count, p5.size, p5.count, p4.size, p4.count, p3.size, p3.count, p2.size, p2.count, p1.size, p1.count), omega (arith, c.requires.0, c.requires.1, c.start-s0.ensures.count, p5.size, p5.count, p4.size, p4.count, p3.size, p3.count, p2.size, p2.count, p1.size, p1.count))

pub returns : goal.returns
returns c =
    let a = c.args in
    five_made _ _ _ _ _ _ a.buf.now c.update-s1.new.buf c.update-s2.new.buf c.update-s3.new.buf c.update-s4.new.buf c.update-s5.new.buf a.a.now a.b.now a.c.now a.d.now a.e.now _ c.start-s0.ensures c.requires.0
    c.update-s1.ensures
    c.update-s2.ensures
    c.update-s3.ensures
    c.update-s4.ensures
    c.update-s5.ensures
    c.finish.ensures

-- `output::write` meets its contract: each part is appended behind those before it.
use Rattle.std.proofs.Common.{◌∙◌, ◌++◌, take, rules, sym, ap, subst}
use Rattle.std.proofs.lemmas.List.{take_rest}
use Rattle.std.proofs.Math.Seq.{take-add}
use Rattle.std.specs.Io.KnownBytes.{Appends}
use Rattle.std.proofs.KnownBytes.{Appends-trans}
use Rattle.console.proofs.output.write.Goals as goal

pub loop-preserved : goal.loop-preserved
loop-preserved g c =
    let text = c.args.text.now in
    let done = c.loop.done in
    let more = c.in_ok-more.more in
    record {
      within = search rules;
      appended = subst (Appends _ _) (ap (λ l. take done text ++ take more l) (take_rest text done) ∙ sym (take-add done more text))
          (Appends-trans _ _ _ _ _ c.loop.invariant.appended c.in_ok-more.ensures.bytes);
    }

use Rattle.std.proofs.Common.{refl, arith, rules, length, ◌≡◌, take_all, length-drop}
use Rattle.std.proofs.lemmas.List.{nil_from_length}
use Rattle.script.proofs.Blocks.{blocks_start, next_block, blocks_end}
use Rattle.program.proofs.Output.{nothing_written, block_written, both_good}
use Rattle.program.proofs.run_lines.Goals as goal

pub loop-rest-init : goal.loop-rest-init
loop-rest-init g c = (blocks_start _ _ _ c.requires, refl, nothing_written _ _ _)

pub loop-rest-preserved : goal.loop-rest-preserved
loop-rest-preserved g c =
    let before = c.loop-rest.invariant in
    let block = c.run_block-block.ensures in
    let sized : length c.run_block-block.new.out ≡ 65536 = omega arith in
    let left = take_all _ _ (omega (arith, length-drop c.run_block-block.result.consumed c.loop-rest.rest.now)) in (
      next_block _ _ _ _ _ _ _ _ _ _ _ _ before.0 block left,
      sized,
      both_good _ _ _ c.and-written.ensures (λ held more. block_written _ _ _ _ _ _ _ _ _ _ _ _ _ _ held block left more) before.2 c.write_full.ensures,
    )

pub returns-clause-ran : goal.returns-clause-ran
returns-clause-ran g c = blocks_end _ _ _ _ _ _ c.loop-rest.invariant.0 (search (rules, nil_from_length))

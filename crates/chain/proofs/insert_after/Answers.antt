use Rattle.chain.proofs.Written.{free_fits, taken_fits, inserted}
use borrow.Author.Rules.{rules}
use Rattle.chain.proofs.insert_after.Goals as goal

pub put_head_word-requires : goal.put_head_word-requires
put_head_word-requires c = search (rules, free_fits)

pub put_next-requires-2 : goal.put_next-requires-2
put_next-requires-2 c = search (rules, taken_fits)

pub returns : goal.returns
returns c = search inserted

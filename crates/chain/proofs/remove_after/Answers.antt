use Rattle.chain.proofs.Written.{gone_fits, after_fits, removed}
use borrow.Author.Rules.{rules}
use Rattle.chain.proofs.remove_after.Goals as goal

pub put_next-requires : goal.put_next-requires
put_next-requires c = search after_fits

pub put_head_word-requires : goal.put_head_word-requires
put_head_word-requires c =
    (search rules, gone_fits _ _ _ c.requires c.next_of-gone.ensures)

pub returns : goal.returns
returns c = search removed

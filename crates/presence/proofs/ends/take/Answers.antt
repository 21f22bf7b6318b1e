use Rattle.presence.proofs.Shows.{good_s, good_n, good_m}
use Rattle.presence.proofs.ends.take.Goals as goal

pub node_sure-sure-requires : goal.node_sure-sure-requires
node_sure-sure-requires c = search good_n

pub mark_node-requires : goal.mark_node-requires
mark_node-requires c = search (good_s, good_n)

pub keep_end-requires : goal.keep_end-requires
keep_end-requires c = search (good_s, good_m)

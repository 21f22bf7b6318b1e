use Rattle.removals.proofs.Collects.{listed_most, collected_fits, collected_count, collected_named, collected_removed}
use Rattle.removals.proofs.remove_listed.Goals as goal

pub write_listed-count-requires : goal.write_listed-count-requires
write_listed-count-requires c = (search, search, search, search listed_most)

pub slice_bounds-nodes-end : goal.slice_bounds-nodes-end
slice_bounds-nodes-end c = search collected_fits

pub slice_bounds-remove_each-end : goal.slice_bounds-remove_each-end
slice_bounds-remove_each-end c = search collected_count

pub remove_each-requires : goal.remove_each-requires
remove_each-requires c = (search, search collected_named)

pub returns : goal.returns
returns c = search collected_removed

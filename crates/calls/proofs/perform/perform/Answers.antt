use Rattle.listings.proofs.Stores.{store_readable}
use Rattle.edit.proofs.Built.{store_linked}
use Rattle.removals.proofs.Removed.{store_removable}
use Rattle.calls.proofs.Performs.{ready_create, ready_destroy, ready_names, ready_room, create_grows, create_performed, bind_performed, value_performed, exists_performed, destroy_shrinks, destroy_performed, list_performed}
use Rattle.calls.proofs.perform.perform.Goals as goal

pub tuple_count-before-requires : goal.tuple_count-before-requires
tuple_count-before-requires c = search store_linked

pub create-requires : goal.create-requires
create-requires c = (search store_linked, search, search, search ready_create)

pub overflow_sub-result : goal.overflow_sub-result
overflow_sub-result c = search create_grows

pub bind-requires : goal.bind-requires
bind-requires c = search store_linked

pub value_of-requires : goal.value_of-requires
value_of-requires c = search store_linked

pub exists-requires : goal.exists-requires
exists-requires c = search store_linked

pub tuple_count-before-requires-in-Destroy : goal.tuple_count-before-requires-in-Destroy
tuple_count-before-requires-in-Destroy c = search store_linked

pub destroy-requires : goal.destroy-requires
destroy-requires c = (search store_removable, search, search ready_destroy)

pub overflow_sub-result-in-Destroy : goal.overflow_sub-result-in-Destroy
overflow_sub-result-in-Destroy c = search destroy_shrinks

pub write_listed-requires : goal.write_listed-requires
write_listed-requires c = (search store_readable, search, search ready_names, search ready_room)

pub returns-in-Create : goal.returns-in-Create
returns-in-Create c = search create_performed

pub returns-in-Bind : goal.returns-in-Bind
returns-in-Bind c = search bind_performed

pub returns-in-Value : goal.returns-in-Value
returns-in-Value c = search (value_performed, store_linked)

pub returns-in-Exists : goal.returns-in-Exists
returns-in-Exists c = search (exists_performed, store_linked)

pub returns-in-Destroy : goal.returns-in-Destroy
returns-in-Destroy c = search destroy_performed

pub returns-in-List : goal.returns-in-List
returns-in-List c = search (list_performed, store_linked)

-- Cases (a) to (j) of document 01 (specs/Cases.antt), by computation.
use mathlib.Core.Path.{refl}
use Rattle.model.specs.Numbered.{refusal_in}
use Rattle.model.specs.Ordered.{holds, put}
use Rattle.model.specs.Keys.{compare_keys}
use Rattle.model.specs.Tuples.{any_present, value_at, add_all, missing, assign, assign_all, remove}
use Rattle.model.specs.Operators.{table, operator_of, reads_of}
use Rattle.model.specs.Pairs.{compare_pairs, ascending, gather, out_pair, in_pair, pairs_at, pairs_of, edge_names, node_names, only, nodes_in, spaces_in, spaces_with, any_pair}
use Rattle.model.specs.Steps.{space_number, object_keys, created, first_value, reaches, edges_taken, node_taken, remove_nodes, space_taken, destroyed, listed, first_argument, would_list, would_add, reply, idle_reply, after}
use Rattle.model.specs.Refusals.{first, zero_space, is_universe, is_nothing, selects_nothing, no_operator, zero_name, lacks_space, destroys_universe, space_absent, node_absent}
use Rattle.model.specs.Refusals.{second_absent, worked_on, edge_absent, list_short, full, of_call, of_tuples, if_looked_up, earlier, refusal_of}
use Rattle.model.specs.Machine.{outcome_of, machine, serve, answers, final}
use Rattle.model.specs.Cases.{Cases, ScriptTable, FirstWins, SecondNode, OperatorsApart}

-- all that tuples compute with ..
unfoldable computed_tuples : Unit {0}
unfolding holds put compare_keys any_present value_at add_all missing assign assign_all remove
computed_tuples = tt

-- .. operators and pairs ..
unfoldable computed_pairs : Unit {0}
unfolding table operator_of reads_of compare_pairs ascending gather out_pair in_pair pairs_at pairs_of edge_names node_names only nodes_in spaces_in spaces_with any_pair
computed_pairs = tt

-- .. steps ..
unfoldable computed_steps : Unit {0}
unfolding space_number object_keys created first_value reaches edges_taken node_taken remove_nodes space_taken destroyed listed first_argument would_list would_add reply idle_reply after
computed_steps = tt

-- .. the conditions ..
unfoldable computed_conditions : Unit {0}
unfolding refusal_in first zero_space is_universe is_nothing selects_nothing no_operator zero_name lacks_space destroys_universe space_absent node_absent second_absent worked_on edge_absent list_short full of_call of_tuples
computed_conditions = tt

-- .. and the machine
unfoldable computed_machine : Unit {0}
unfolding if_looked_up earlier refusal_of outcome_of machine serve answers final
computed_machine = tt

-- to unfold this is to unfold all that the machine computes with
unfoldable pub computed : Unit {0}
unfolding computed_tuples computed_pairs computed_steps computed_conditions computed_machine
computed = tt

pub cases : Cases
unfolding computed
cases =
    record {
      a = refl;
      b = refl;
      c = refl;
      c_remain = refl;
      d = refl;
      e = refl;
      f = refl;
      g = refl;
      h = refl;
      i = refl;
      j = refl;
    }

pub script_table : ScriptTable
unfolding computed
script_table = refl

pub first_wins : FirstWins
unfolding computed
first_wins = refl

pub second_node : SecondNode
unfolding computed
second_node = refl

pub operators_apart : OperatorsApart
unfolding computed
operators_apart = refl

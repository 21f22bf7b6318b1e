use Rattle.presence.proofs.EdgeEnds.{spanning_start, at_tuple, own_space, no_edge, no_first_end, no_second_end, both_ends, go_on, leave, finish}
use Rattle.presence.proofs.Support.{head_some}
use Rattle.presence.proofs.Rest.{record_inside, on_head, fewer, seek_start, seek_inside, seek_next, seek_fewer}
use Rattle.presence.proofs.edge_ends.edges_ended.Goals as goal

pub next_of-at-requires : goal.next_of-at-requires
next_of-at-requires c =
    record_inside _ _ c.requires.used.walkable (on_head _ _ c.requires.used c.head_word-space.ensures).high (head_some _ _ c.requires c.head_word-space.ensures)

pub tuples-init : goal.tuples-init
tuples-init c = search spanning_start

pub key_of-k-requires : goal.key_of-k-requires
key_of-k-requires c = search record_inside

pub space_start-space-requires : goal.space_start-space-requires
space_start-space-requires c = search record_inside

pub next_of-at-requires-then-k-eq0 : goal.next_of-at-requires-then-k-eq0
next_of-at-requires-then-k-eq0 c = search record_inside

pub tuples-smaller-then-k-eq0 : goal.tuples-smaller-then-k-eq0
tuples-smaller-then-k-eq0 c = search fewer

pub tuples-preserved-then-k-eq0 : goal.tuples-preserved-then-k-eq0
tuples-preserved-then-k-eq0 c =
    let T =
    at_tuple _ _ _ _ _ c.requires.used.walkable c.tuples.invariant c.tuples-test.true c.space_start-space.ensures
    c.key_of-k.ensures in
    go_on _ _ _ _ _ T _ c.next_of-at-then-k-eq0.ensures (no_edge _ _ _ _ _ T c.if-k-eq0.true)

pub holds_from-requires : goal.holds_from-requires
holds_from-requires c =
    let T =
    at_tuple _ _ _ _ _ c.requires.used.walkable c.tuples.invariant c.tuples-test.true c.space_start-space.ensures
    c.key_of-k.ensures in
    own_space _ _ _ _ _ T

pub loop-end-init : goal.loop-end-init
loop-end-init c =
    let T =
    at_tuple _ _ _ _ _ c.requires.used.walkable c.tuples.invariant c.tuples-test.true c.space_start-space.ensures
    c.key_of-k.ensures in
    seek_start _ _ _ (own_space _ _ _ _ _ T)

pub next_of-seek-requires : goal.next_of-seek-requires
next_of-seek-requires c =
    seek_inside _ _ _ _ c.loop-end.invariant _ c.is_before.ensures c.if-not-is_before.false

pub loop-end-smaller : goal.loop-end-smaller
loop-end-smaller c =
    seek_fewer _ _ _ _ c.loop-end.invariant _ _ c.is_before.ensures c.if-not-is_before.false c.next_of-seek.ensures

pub loop-end-preserved : goal.loop-end-preserved
loop-end-preserved c =
    seek_next _ _ _ _ c.loop-end.invariant _ _ c.is_before.ensures c.if-not-is_before.false c.next_of-seek.ensures

pub next_of-at-requires-in-tuples : goal.next_of-at-requires-in-tuples
next_of-at-requires-in-tuples c =
    record_inside _ _ c.requires.used.walkable c.tuples.invariant.every.on.high c.tuples-test.true

pub tuples-smaller : goal.tuples-smaller
tuples-smaller c = search fewer

pub tuples-preserved : goal.tuples-preserved
tuples-preserved c =
    let T =
    at_tuple _ _ _ _ _ c.requires.used.walkable c.tuples.invariant c.tuples-test.true c.space_start-space.ensures
    c.key_of-k.ensures in
    go_on _ _ _ _ _ T _ c.next_of-at-in-tuples.ensures
    (both_ends _ _ _ _ _ T c.if-k-eq0.false _ c.node_key.ensures _ c.holds_from.ensures _
    c.node_key-end.ensures _ c.loop-end.invariant c.if-not-holds_from.false _ c.is_at.ensures
    c.loop-end-test.false)

pub returns : goal.returns
returns c =
    let w = c.requires.used.walkable in
    let S = c.tuples.invariant in
    elim c.tuples-test.branch [
      | goal.else-tuples-test x ↦ finish _ _ _ S x.tuples-test.false
      | goal.then-tuples-test+else-k-eq0+then-not-holds_from x ↦
          let T = at_tuple _ _ _ _ _ w S x.tuples-test.true x.space_start-space.ensures x.key_of-k.ensures in
          leave _ _ _ _ _ T (no_first_end _ _ _ _ _ T x.if-k-eq0.false x.node_key.result x.node_key.ensures x.holds_from.result x.holds_from.ensures
          x.if-not-holds_from.true)
      | goal.then-tuples-test+else-k-eq0+else-not-holds_from+then-loop-end-test+then-not-is_before x ↦
          let T = at_tuple _ _ _ _ _ w S x.tuples-test.true x.space_start-space.ensures x.key_of-k.ensures in
          leave _ _ _ _ _ T (no_second_end _ _ _ _ _ T x.if-k-eq0.false x.node_key.result x.node_key.ensures x.holds_from.result x.holds_from.ensures
          x.node_key-end.result x.node_key-end.ensures x.loop-end.seek x.loop-end.invariant _ _ x.is_at.ensures x.loop-end-test.true
          x.is_before.ensures x.if-not-is_before.true)
    ]

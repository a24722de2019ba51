-- The counts that a head holds.
use Rattle.layout.specs.declared.head.Head.{Head}
use Rattle.layout.specs.Forms.{form_number}
use Rattle.layout.specs.Layout.{Counts}

abbrev pub counts_of : Head → Counts
counts_of h = record {
  variables = h.variables;
  places = h.places;
  steps = h.steps;
  propositions = h.propositions;
  states = h.states;
  edges = h.edges;
  start_rows = h.start_rows;
  guards = h.guards;
  region_rows = h.region_rows;
  start_place = h.start_place;
  start_state = h.start_state;
  form = form_number h.form;
  rank_numbers = h.rank_numbers;
}

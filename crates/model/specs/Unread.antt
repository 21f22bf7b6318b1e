-- Document 01, "Fields not read have no effect": what of a call counts.
use Rattle.std.specs.Prelude.{cond}
use Rattle.model.specs.declared.Call.{Call}
use Rattle.model.specs.declared.Space.TheVariants.{Universe}
use Rattle.model.specs.Operators.{reads_of}
use Rattle.model.specs.Steps.{n_of, g_of, m_of, v_of}

-- "The number fixes the arguments that are read": the call with each other name and value 0, and each other space UNIVERSE
unfoldable pub readable : Call → Call
readable c =
    let r = reads_of c.operator in
    record {
      operator = c.operator;
      n = record { 0 = cond r.n (n_of c) 0 };
      g = record { 0 = cond r.g (g_of c) 0 };
      m = record { 0 = cond r.m (m_of c) 0 };
      v = cond r.v (v_of c) 0;
      s = cond r.s c.s Universe;
    }

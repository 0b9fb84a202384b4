-- What a literal can be of, and what is served.
use Rattle.std.specs.Prelude.{ℕ}
use Rattle.mal_base.specs.declared.limits.Limits.{Limits}

-- the greatest variable that a literal can be of
abbrev pub greatest_variable : ℕ
greatest_variable = 1073741824

-- what is served
abbrev pub limits : Limits
limits =
    record {
      variables = 65536;
      clauses = 1048576;
      literals = 16777216;
      tenants = 64;
      jobs = 4096;
      jobs_of_tenant = 64;
      revisions = 256;
      priority = 1000;
      demand = 64;
      slices = 4096;
      softs = 128;
      assumptions = 255;
    }

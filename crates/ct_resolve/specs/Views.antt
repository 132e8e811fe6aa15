-- Named queries as the definitions have them.
use Rattle.ct_query.specs.Views.{query_of}
use Rattle.ct_resolve.specs.declared.selects.Named as declared
use Rattle.ct_resolve.specs.Queries.{Named}

-- a query with the names of its columns, the query as a plain tree
abbrev pub named_of : declared.Named → Named
named_of n = record { columns = n.columns; query = query_of n.query }

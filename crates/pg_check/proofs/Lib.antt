mod PhaseLists
